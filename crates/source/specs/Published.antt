-- The published rules in their own words: what a term is, where a transition lands, one constructor for each rule.
-- Nothing here uses the functions that list the transitions.
use Rattle.std.specs.Prelude.{◌≡◌, ℕ, ◌+◌, ◌-◌, ◌<◌, ◌≤◌, true, false, cond, List, [], ◌∷◌, map, length, Some, sum_by, ◌≢◌, slice_index, slice_set}
use Rattle.std.specs.List.{slice_get, AllZip, AllByRecursion}
use Rattle.language.specs.Meanings.{Meaning}
use Rattle.model.specs.Trees.{Tree, call, when, choice, sum, action, delay}
use Rattle.valuation.specs.Transitions.{Outcome, Transition, move, wait}
use Rattle.source.specs.Free.{free}
use Rattle.source.specs.Models.{Process, Model, Term, node, process}
use Rattle.source.specs.Order.{Ascending}
use Rattle.source.specs.Rules.{Rule, Implies, NChoiceL, NChoiceR, NSum, PSum, MStep, same_rules, Derived}
use Rattle.source.specs.Terms.{transitions, start_term}

-- A value given to a variable: itself where the variable holds it, else the largest that it holds.
abbrev pub CutTo : ℕ → ℕ → ℕ → Type 0
CutTo size a v = (a < size → v ≡ a) × (size ≤ a → v ≡ size - 1)

-- Variable x has value v: if it is parameter i of q, a value that H admits for i; if it is none, 0.
abbrev pub AtParams : Process → (ℕ → ℕ → Type 0) → ℕ → ℕ → Type 0
AtParams q H x v = ((i : ℕ) → i < q.params → x ≡ q.first + i → H i v) × (((i : ℕ) → i < q.params → x ≢ q.first + i) → v ≡ 0)

-- s is place t, each free variable x of which has a value that H admits; the others are 0.
abbrev pub IsTerm : Meaning → Model → Tree → (ℕ → ℕ → Type 0) → Term → Type 0
IsTerm L m t H s =
    (s.place ≡ node t) × (length s.values ≡ length m.sizes)
    × ((x : ℕ) → x < length m.sizes → free L t x ≡ true → H x (slice_index s.values x))
    × ((x : ℕ) → x < length m.sizes → free L t x ≡ false → slice_index s.values x ≡ 0)

-- The called body, each parameter given its argument, all worked out under ρ (rule Inst); a child itself, its free variables kept.
abbrev pub Called : Meaning → Model → ℕ → List ℕ → List ℕ → Term → Type 0
Called L m p es ρ =
    IsTerm L m (process m p).body (AtParams (process m p) (λ i v. CutTo (slice_index m.sizes ((process m p).first + i)) (L.value (slice_index es i) ρ) v))

abbrev pub Itself : Meaning → Model → Tree → List ℕ → Term → Type 0
Itself L m t ρ = IsTerm L m t (λ x v. v ≡ slice_index ρ x)

abbrev pub Target : Meaning → Model → Tree → List ℕ → Term → Type 0
Target L m (call n p es) ρ = Called L m p es ρ
Target L m (when n e t) ρ = Itself L m (when n e t) ρ
Target L m (choice n l r) ρ = Itself L m (choice n l r) ρ
Target L m (sum n x t) ρ = Itself L m (sum n x t) ρ
Target L m (action n a es x w t) ρ = Itself L m (action n a es x w t) ρ
Target L m (delay n r t) ρ = Itself L m (delay n r t) ρ

-- p, under ρ, has by the rules D the transition s.
pub data Derivation (L : Meaning) (m : Model) : Tree → List ℕ → List Rule → Transition Term → Type 0 where
  implies : {n e : ℕ} {p : Tree} {ρ : List ℕ} {D : List Rule} {s : Transition Term} → (L.value e ρ ≢ 0) → Derivation L m p ρ D s → Derivation L m (when n e p) ρ (Implies ∷ D) s
  choice_l : {n : ℕ} {p q : Tree} {ρ : List ℕ} {D : List Rule} {s : Transition Term} → Derivation L m p ρ D s → Derivation L m (choice n p q) ρ (NChoiceL ∷ D) s
  choice_r : {n : ℕ} {p q : Tree} {ρ : List ℕ} {D : List Rule} {s : Transition Term} → Derivation L m q ρ D s → Derivation L m (choice n p q) ρ (NChoiceR ∷ D) s
  nsum : {n x d : ℕ} {p : Tree} {ρ : List ℕ} {D : List Rule} {s : Transition Term} → d < slice_index m.sizes x → Derivation L m p (slice_set ρ x d) D s → Derivation L m (sum n x p) ρ (NSum d ∷ D) s
  psum : {n a : ℕ} {es : List ℕ} {x w : ℕ} {p : Tree} {ρ args : List ℕ} {outs : List (Outcome Term)}
      → AllZip (λ e v. v ≡ L.value e ρ) es args → length outs ≡ slice_index m.sizes x
      → ((d : ℕ) (o : Outcome Term) → slice_get outs d ≡ Some o → (o.weight ≡ L.value w (slice_set ρ x d)) × Target L m p (slice_set ρ x d) o.to)
      → (d : ℕ) → d < slice_index m.sizes x → 0 < L.value w (slice_set ρ x d)
      → Derivation L m (action n a es x w p) ρ (PSum ∷ []) (move a args outs)
  mstep : {n r : ℕ} {p : Tree} {ρ : List ℕ} {s : Term} → 0 < L.value r ρ → Target L m p ρ s → Derivation L m (delay n r p) ρ (MStep ∷ []) (wait (L.value r ρ) s)

-- The transitions of a tree, in order, are those of its derivations: each derivation once, and by ascending rules.
pub record Exactly (L : Meaning) (m : Model) (t : Tree) (ρ : List ℕ) : Type 0 where
  pub list : List Derived
  pub listed : transitions L m t ρ ≡ map (λ z. z.gives) list
  pub derive : AllByRecursion (λ z. Derivation L m t ρ z.by z.gives) list
  pub once : (D : List Rule) (s : Transition Term) → Derivation L m t ρ D s → (f : Transition Term → ℕ) → sum_by (λ z. cond (same_rules D z.by) (f z.gives) 0) list ≡ f s
  pub ascends : Ascending list

abbrev pub ListsAll : Type 0
ListsAll = (L : Meaning) (m : Model) (t : Tree) (ρ : List ℕ) → Exactly L m t ρ

-- The first term is the start process's body, parameter i with start value i.
abbrev pub StartsInWords : Type 0
StartsInWords = (L : Meaning) (m : Model) → IsTerm L m (process m m.begins).body (AtParams (process m m.begins) (λ i v. v ≡ slice_index m.values i)) (start_term L m)
