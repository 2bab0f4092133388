-- A turn that puts two frames on.
use Rattle.std.proofs.Common.{◌≡◌, ℕ, ◌+◌, ◌<◌, List, [], ◌∷◌, ◌++◌, get_or, set, None, sym, ap, ◌∙◌, ap₂, subst, append_assoc, arith}
use Rattle.std.proofs.lemmas.List.{reverse-append}
use Rattle.std.proofs.lemmas.List.Sums.{sum_by-append}
use Rattle.std.proofs.lemmas.Grind.{flat_map-append, common_steps}
use Rattle.language.specs.Meanings.{Meaning}
use Rattle.valuation.specs.Valuations.{listed}
use Rattle.valuation.specs.declared.valuation.Valuation.{Valuation}
use Rattle.ways.specs.declared.frames.Frame.{Frame}
use Rattle.ways.specs.Trees.{Tree, choice, sum}
use Rattle.ways.specs.Leaves.{Leaf}
use Rattle.ways.specs.Stacks.{leaves_from, frame_leaves, remaining, work_from, frame_work, work_left, Turned}
use Rattle.ways.proofs.Stacks.{from_zero, sum_on, work_zero, work_on}

module _ (L : Meaning) (sizes : List ℕ) (tree : ℕ → Tree) where
  abbrev gives : Frame → List Leaf
  gives = frame_leaves L sizes tree

  abbrev does : Frame → ℕ
  does = frame_work sizes tree

  on_top : (fs : List Frame) (f : Frame) → remaining L sizes tree (fs ++ f ∷ []) ≡ gives f ++ remaining L sizes tree fs
  on_top fs f = grind (arith, common_steps, reverse-append fs (f ∷ []), flat_map-append gives)

  more_work : (fs : List Frame) (f : Frame) → work_left sizes tree (fs ++ f ∷ []) ≡ work_left sizes tree fs + does f
  more_work fs f = grind (arith, common_steps, sum_by-append does fs (f ∷ []))

  split : (f g h : Frame) (fs hs gs : List Frame) → hs ≡ fs ++ g ∷ [] → gs ≡ hs ++ h ∷ [] → gives f ≡ gives h ++ gives g → does h + does g < does f → Turned L sizes tree f fs None gs
  split f g h fs hs gs eh eg a b =
      let e : gs ≡ (fs ++ g ∷ []) ++ h ∷ [] = eg ∙ ap (λ xs. xs ++ h ∷ []) eh in
      subst (λ xs. Turned L sizes tree f fs None xs) (sym e) (record {
        gives = ap (λ xs. xs ++ remaining L sizes tree fs) a ∙ append_assoc (gives h) (gives g) (remaining L sizes tree fs)
            ∙ sym (on_top (fs ++ g ∷ []) h ∙ ap (λ xs. gives h ++ xs) (on_top fs g));
        falls = omega (arith, more_work (fs ++ g ∷ []) h, more_work fs g);
      })

  abbrev child : ℕ → Valuation → Frame
  child c v = record { node = c; from = 0; valuation = v }

  pub turned_choice : (f : Frame) (u v : ℕ) → tree f.node ≡ choice (tree u) (tree v) → (fs hs gs : List Frame) → hs ≡ fs ++ child v f.valuation ∷ [] → gs ≡ hs ++ child u f.valuation ∷ [] → Turned L sizes tree f fs None gs
  turned_choice f u v e fs hs gs eh eg =
      let ρ = listed f.valuation in
      split f (child v f.valuation) (child u f.valuation) fs hs gs eh eg
      (ap (λ y. leaves_from L sizes y f.from ρ) e ∙ ap₂ ◌++◌ (sym (from_zero L sizes (tree u) ρ)) (sym (from_zero L sizes (tree v) ρ)))
      (omega (arith, ap (λ y. work_from sizes y f.from) e, work_zero sizes (tree u), work_zero sizes (tree v)))

  pub turned_sum : (f : Frame) (x c : ℕ) → tree f.node ≡ sum x (tree c) → f.from < get_or sizes x 0 → (v : Valuation) → listed v ≡ set (listed f.valuation) x f.from → (fs hs gs : List Frame)
      → hs ≡ fs ++ (record { node = f.node; from = f.from + 1; valuation = f.valuation }) ∷ [] → gs ≡ hs ++ child c v ∷ [] → Turned L sizes tree f fs None gs
  turned_sum f x c e l v ev fs hs gs eh eg =
      let ρ = listed f.valuation in
      split f (record { node = f.node; from = f.from + 1; valuation = f.valuation }) (child c v) fs hs gs eh eg
      (ap (λ y. leaves_from L sizes y f.from ρ) e ∙ sum_on L sizes x (tree c) f.from ρ l
      ∙ ap₂ (λ σ y. leaves_from L sizes (tree c) 0 σ ++ leaves_from L sizes y (f.from + 1) ρ) (sym ev) (sym e))
      (omega (arith, ap (λ y. work_from sizes y f.from) e, work_on sizes x (tree c) f.from l, ap (λ y. work_from sizes y (f.from + 1)) e))
