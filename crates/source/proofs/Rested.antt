-- Bodies, children and calls, as a model hands them out and as its file has them.
use Rattle.std.proofs.Common.{◌≡◌, ℕ, zero, suc, ◌+◌, ◌<◌, ◌≤◌, Bool, ◌||◌, true, false, cond, eqb, List, get_or, is_ok, Some, None, Option, sym, refl, ap, ◌∙◌, ap₂, ⊎_elim, arith}
use Rattle.std.specs.List.{slice_get}
use Rattle.std.proofs.lemmas.Bool.{cases_Bool}
use Rattle.model_file.specs.declared.layout.Layout.{Layout}
use Rattle.model_file.specs.Fields.{process_count, body_of, node_count}
use Rattle.model_file.specs.Layouts.{layout_of}
use Rattle.model_rules.specs.Shapes.{Shape}
use Rattle.model_rules.specs.declared.shape.Shape.TheVariants as shape
use Rattle.model_rules.specs.Shapes.{shape_at}
use Rattle.model_rules.specs.Tallies.{one, total, movers, is_call, resting}
use Rattle.model_rules.proofs.Decoded.{shape_is}
use Rattle.model_rules.proofs.Moves.{resting_is, resting_made}
use Rattle.model.specs.Accept.{judged}
use Rattle.model.specs.Flat.{flat, process_of, node_of, or_delay}
use Rattle.model.specs.Nodes.{node_in, value_in}
use Rattle.model.proofs.Numbered.{numbered_nth}
use Rattle.source.specs.Counters.{body_is, leads_to, calling, lower, counter_of, counter_at, Counts}
use Rattle.source.specs.declared.numbering.Counter.{Counter}
use Rattle.source.proofs.Flats.{sound}

module _ (bs : List ℕ) (lawful : is_ok (judged bs) ≡ true) where
  abbrev l : Layout
  l = layout_of bs

  pub body_hit : (i n : ℕ) → i < process_count bs l → body_is (slice_get (flat bs).processes i) n ≡ eqb (body_of bs l i) n
  body_hit i n low = ap (λ q. body_is q n) (sym (numbered_nth (process_of bs l) (process_count bs l) i low))

  leads_one : (s : Shape) (n : ℕ) → one (leads_to (value_in (flat bs) (Some s)) n) ≡ movers n (Some s)
  leads_one (shape.Call p f) n = refl
  leads_one (shape.Condition x c) n = refl
  leads_one (shape.Choice x y) n = refl
  leads_one (shape.Sum v c) n = refl
  leads_one (shape.Action a f v w c) n = refl
  leads_one (shape.Delay r c) n = refl

  calls_one : (s : Shape) → calling (value_in (flat bs) (Some s)) ≡ is_call (Some s)
  calls_one (shape.Call p f) = refl
  calls_one (shape.Condition x c) = refl
  calls_one (shape.Choice x y) = refl
  calls_one (shape.Sum v c) = refl
  calls_one (shape.Action a f v w c) = refl
  calls_one (shape.Delay r c) = refl

  node_some : (i : ℕ) → i < node_count bs l → (s : Shape) × (node_in (flat bs) i ≡ value_in (flat bs) (Some s)) × (shape_at bs l i ≡ Some s)
  node_some i low =
      let k = (sound bs lawful).kinds i low in
      let is = shape_is bs l i k.0 k.1 in
      (k.0, ap (value_in (flat bs)) (sym (numbered_nth (node_of bs l) (node_count bs l) i low) ∙ ap (λ o. Some (or_delay o)) is), is)

  pub child_hit : (i n : ℕ) → i < node_count bs l → one (leads_to (node_in (flat bs) i) n) ≡ movers n (shape_at bs l i)
  child_hit i n low = let z = node_some i low in ap (λ o. one (leads_to o n)) z.1 ∙ leads_one z.0 n ∙ ap (movers n) (sym z.2)

  pub call_hit : (i : ℕ) → i < node_count bs l → calling (node_in (flat bs) i) ≡ is_call (shape_at bs l i)
  call_hit i low = let z = node_some i low in ap calling z.1 ∙ calls_one z.0 ∙ ap is_call (sym z.2)

  total_same : (f h : ℕ → ℕ) (k i : ℕ) → ((j : ℕ) → i ≤ j → j < i + k → f j ≡ h j) → total f k i ≡ total h k i
  total_same f h zero i e = refl
  total_same f h (suc k) i e = ap₂ ◌+◌ (e i (omega arith) (omega arith)) (total_same f h k (i + 1) (λ j a b. e j (omega arith) (omega arith)))

  pub bodies_all : (n : ℕ) → total (λ i. one (body_is (slice_get (flat bs).processes i) n)) (process_count bs l) 0 ≡ total (λ i. one (eqb (body_of bs l i) n)) (process_count bs l) 0
  bodies_all n = total_same _ _ (process_count bs l) 0 (λ i a b. ap one (body_hit i n (omega arith)))

  pub children_all : (n : ℕ) → total (λ i. one (leads_to (node_in (flat bs) i) n)) (node_count bs l) 0 ≡ total (λ i. movers n (shape_at bs l i)) (node_count bs l) 0
  children_all n = total_same _ _ (node_count bs l) 0 (λ i a b. child_hit i n (omega arith))

  pub counts : (r : List (Option Counter)) → ((n : ℕ) → n < node_count bs l → get_or r n None ≡ counter_at (resting bs l) n) → Counts bs l r
  counts r h = record {
    some = λ n low rests. h n low ∙ ap (λ b. cond b (Some (counter_of (suc (lower (resting bs l) n)))) None) (resting_made bs l n low rests);
    none = λ n low none. ⊎_elim
        (λ (a : resting bs l n ≡ true). absurd (none (resting_is bs l n a)))
        (λ (a : resting bs l n ≡ false). h n low ∙ ap (λ b. cond b (Some (counter_of (suc (lower (resting bs l) n)))) None) a)
        (cases_Bool (resting bs l n));
  }

pub or_swapped : (a b : Bool) → (a || b) ≡ (b || a)
or_swapped true true = refl
or_swapped true false = refl
or_swapped false true = refl
or_swapped false false = refl
