-- What a node's tree names and binds, from what its children's do.
use Rattle.std.proofs.Common.{◌≡◌, ℕ, zero, suc, ◌+◌, ◌<◌, Bool, true, false, ◌||◌, eqb, List, [], ◌∷◌, length, get_or, set, replicate, Some, sym, refl, ap, ◌∙◌, subst, ap₂, ⊎_elim, arith, get_or-set_other, get_or-set_same}
use Rattle.std.proofs.lemmas.Option.{slice_get-get_or}
use Rattle.std.proofs.lemmas.Bool.{cases_eq}
use Rattle.language.specs.Meanings.{Meaning}
use Rattle.model_rules.specs.Shapes.{Shape}
use Rattle.model_rules.specs.declared.shape.Shape.TheVariants.{Call, Condition, Choice, Sum, Action, Delay}
use Rattle.words.specs.Words.{bytes_of}
use Rattle.model.specs.Flat.{Flat}
use Rattle.model.specs.Nodes.{node_in, value_in, arguments_from, call_arity, action_arity}
use Rattle.model.specs.Trees.{Tree, planted, tree_of}
use Rattle.source.specs.Free.{named_in, named, bound}
use Rattle.source.specs.Nodes.{words_in, own_names, own_binds, carried_by, Rises, RisesFrom}
use Rattle.source.proofs.Grown.{tree_is}
use Rattle.source.proofs.Words.{words_back}

or_three : (a b c : Bool) → (a || (b || c)) ≡ ((a || b) || c)
or_three true b c = refl
or_three false b c = refl

or_none : (a : Bool) → a ≡ (a || false)
or_none true = refl
or_none false = refl

pub rises_at : (i : ℕ) (ks : List Shape) (d : Shape) (n : ℕ) → RisesFrom i ks → n < length ks → Rises (i + n) (get_or ks n d)
rises_at i [] d n a l = absurd (omega arith)
rises_at i (k ∷ ks) d zero a l = let q : i + 0 ≡ i = omega arith in rw q a.0
rises_at i (k ∷ ks) d (suc n) a l = let q : i + suc n ≡ suc i + n = omega arith in rw q (rises_at (suc i) ks d n a.1 (omega arith))

module _ (L : Meaning) (g : Flat) (x : ℕ) where
  args : (es : List ℕ) → named_in L es x ≡ named_in L (words_in (bytes_of es)) x
  args es = ap (λ ws. named_in L ws x) (sym (words_back es))

  named_planted : (n : ℕ) (s : Shape) (T : ℕ → Tree) (p : ℕ → Bool) → Rises n s → ((c : ℕ) → n < c → p c ≡ named L (T c) x) → named L (planted g n s T) x ≡ carried_by (λ v. own_names L v x) p (value_in g (Some s))
  named_planted n (Call q f) T p r h = args (arguments_from g f (call_arity g q)) ∙ or_none _
  named_planted n (Condition e c) T p r h = ap (λ b. L.names e x || b) (sym (h c r))
  named_planted n (Choice u v) T p r h = ap₂ ◌||◌ (sym (h u r.0)) (sym (h v r.1))
  named_planted n (Sum v c) T p r h = sym (h c r)
  named_planted n (Action a f v w c) T p r h =
      or_three (named_in L (arguments_from g f (action_arity g a)) x) (L.names w x) (named L (T c) x)
      ∙ ap₂ (λ s b. (s || L.names w x) || b) (args (arguments_from g f (action_arity g a))) (sym (h c r))
  named_planted n (Delay e c) T p r h = ap (λ b. L.names e x || b) (sym (h c r))

  bound_planted : (n : ℕ) (s : Shape) (T : ℕ → Tree) (p : ℕ → Bool) → Rises n s → ((c : ℕ) → n < c → p c ≡ bound (T c) x) → bound (planted g n s T) x ≡ carried_by (λ v. own_binds v x) p (value_in g (Some s))
  bound_planted n (Call q f) T p r h = refl
  bound_planted n (Condition e c) T p r h = sym (h c r)
  bound_planted n (Choice u v) T p r h = ap₂ ◌||◌ (sym (h u r.0)) (sym (h v r.1))
  bound_planted n (Sum v c) T p r h = ap (λ b. eqb v x || b) (sym (h c r))
  bound_planted n (Action a f v w c) T p r h = ap (λ b. eqb v x || b) (sym (h c r))
  bound_planted n (Delay e c) T p r h = sym (h c r)

  module _ (rising : RisesFrom 0 g.nodes) (n : ℕ) (low : n < length g.nodes) where
    abbrev here : Shape
    here = get_or g.nodes n (Delay 0 0)

    rises : Rises n here
    rises = let q : 0 + n ≡ n = omega arith in subst (λ k. Rises k here) q (rises_at 0 g.nodes (Delay 0 0) n rising low)

    pub named_at : (p : ℕ → Bool) → ((c : ℕ) → n < c → p c ≡ named L (tree_of g c) x) → carried_by (λ v. own_names L v x) p (node_in g n) ≡ named L (tree_of g n) x
    named_at p h =
        ap (λ o. carried_by (λ v. own_names L v x) p (value_in g o)) (slice_get-get_or g.nodes n (Delay 0 0) low)
        ∙ sym (named_planted n here (tree_of g) p rises h) ∙ ap (λ t. named L t x) (sym (tree_is g rising (Delay 0 0) n low))

    pub bound_at : (p : ℕ → Bool) → ((c : ℕ) → n < c → p c ≡ bound (tree_of g c) x) → carried_by (λ v. own_binds v x) p (node_in g n) ≡ bound (tree_of g n) x
    bound_at p h =
        ap (λ o. carried_by (λ v. own_binds v x) p (value_in g o)) (slice_get-get_or g.nodes n (Delay 0 0) low)
        ∙ sym (bound_planted n here (tree_of g) p rises h) ∙ ap (λ t. bound t x) (sym (tree_is g rising (Delay 0 0) n low))

pub falses : (n c : ℕ) → get_or (replicate n false) c false ≡ false
falses zero c = refl
falses (suc n) zero = refl
falses (suc n) (suc c) = falses n c

-- flags of all nodes below n, set one higher
pub flags_next : (f : ℕ → Bool) (flags : List Bool) (n : ℕ) (b : Bool) → n < length flags → ((c : ℕ) → c < n → get_or flags c false ≡ f c) → b ≡ f n → (c : ℕ) → c < n + 1 → get_or (set flags n b) c false ≡ f c
flags_next f flags n b l h q c m = ⊎_elim
    (λ (z : c ≡ n). rw z (get_or-set_same flags n b false l ∙ q))
    (λ (z : c ≡ n → ⊥). get_or-set_other flags n c b false z ∙ h c (omega (arith, z)))
    (cases_eq c n)
