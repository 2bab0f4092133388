-- Derivations with the rules that they use, as a list in order.
--     Rule             a published rule; a derivation is the list of the rules used, from the root on
--     derived L m t ρ  the derivations of a tree under a valuation
--     Derives ..       the same as a relation over the list's functions, a step towards the published one
use Rattle.std.specs.Prelude.{◌≡◌, ℕ, ◌+◌, ◌<◌, Bool, true, false, cond, ◌&&◌, List, [], ◌∷◌, ◌++◌, map, sum_by, nat_eq, slice_index, slice_set}
use Rattle.std.specs.List.{flat_map, AllByRecursion}
use Rattle.language.specs.Meanings.{Meaning}
use Rattle.model.specs.Trees.{Tree, call, when, choice, sum, action, delay}
use Rattle.valuation.specs.Valuations.{values_of, holds}
use Rattle.valuation.specs.Transitions.{Transition, move, wait}
use Rattle.valuation.specs.Doings.{acts, waits, outcomes, does}
use Rattle.source.specs.Models.{Model, Term, next}
use Rattle.source.specs.Terms.{target, transitions}

pub data Rule : Type 0 where
  Implies : Rule
  NChoiceL : Rule
  NChoiceR : Rule
  NSum : (d : ℕ) → Rule
  PSum : Rule
  MStep : Rule

abbrev pub same_list : {X : Type 0} → (X → X → Bool) → List X → List X → Bool
same_list same [] [] = true
same_list same [] (y ∷ ys) = false
same_list same (x ∷ xs) [] = false
same_list same (x ∷ xs) (y ∷ ys) = same x y && same_list same xs ys

-- p, under ρ, derives by D the step s. (Inst is part of `target`.)
pub data Derives (L : Meaning) (m : Model) : Tree → List ℕ → List Rule → Transition Term → Type 0 where
  implies : {n e : ℕ} {p : Tree} {ρ : List ℕ} {D : List Rule} {s : Transition Term} → holds L e ρ ≡ true → Derives L m p ρ D s → Derives L m (when n e p) ρ (Implies ∷ D) s
  choice_l : {n : ℕ} {p q : Tree} {ρ : List ℕ} {D : List Rule} {s : Transition Term} → Derives L m p ρ D s → Derives L m (choice n p q) ρ (NChoiceL ∷ D) s
  choice_r : {n : ℕ} {p q : Tree} {ρ : List ℕ} {D : List Rule} {s : Transition Term} → Derives L m q ρ D s → Derives L m (choice n p q) ρ (NChoiceR ∷ D) s
  nsum : {n x d : ℕ} {p : Tree} {ρ : List ℕ} {D : List Rule} {s : Transition Term} → d < slice_index m.sizes x → Derives L m p (slice_set ρ x d) D s → Derives L m (sum n x p) ρ (NSum d ∷ D) s
  psum : {n a : ℕ} {es : List ℕ} {x w : ℕ} {p : Tree} {ρ : List ℕ} → 0 < sum_by (λ o. o.weight) (outcomes L m.sizes x w (target L m (next p)) ρ)
      → Derives L m (action n a es x w p) ρ (PSum ∷ []) (move a (map (λ e. L.value e ρ) es) (outcomes L m.sizes x w (target L m (next p)) ρ))
  mstep : {n r : ℕ} {p : Tree} {ρ : List ℕ} → 0 < L.value r ρ → Derives L m (delay n r p) ρ (MStep ∷ []) (wait (L.value r ρ) (target L m (next p) ρ))

-- A rule's number, to tell rules apart.
abbrev pub code : Rule → ℕ
code Implies = 0
code NChoiceL = 1
code NChoiceR = 2
code PSum = 3
code MStep = 4
code (NSum d) = 5 + d

abbrev pub same_rules : List Rule → List Rule → Bool
same_rules = same_list (λ a b. nat_eq (code a) (code b))

-- A step with its derivation.
pub record Derived : Type 0 where
  pub by : List Rule
  pub gives : Transition Term

abbrev pub under : Rule → Derived → Derived
under r z = record { by = r ∷ z.by; gives = z.gives }

abbrev pub from : Rule → Transition Term → Derived
from r s = record { by = r ∷ []; gives = s }

module _ (L : Meaning) (m : Model) where
  abbrev pub derived : Tree → List ℕ → List Derived
  derived (call n p es) ρ = []
  derived (when n e t) ρ = cond (holds L e ρ) (map (under Implies) (derived t ρ)) []
  derived (choice n l r) ρ = map (under NChoiceL) (derived l ρ) ++ map (under NChoiceR) (derived r ρ)
  derived (sum n x t) ρ = flat_map (λ d. map (under (NSum d)) (derived t (slice_set ρ x d))) (values_of m.sizes x)
  derived (action n a es x w t) ρ = map (from PSum) (does L m.sizes (acts a es x w) (target L m (next t)) ρ)
  derived (delay n r t) ρ = map (from MStep) (does L m.sizes (waits r) (target L m (next t)) ρ)

  -- The steps of a tree are those of the list `derived`, in its order. Each entry is a derivation,
  -- and each derivation stands there once: whatever the steps are weighed with, the entries with that derivation weigh as its step.
  pub record Enumerated (t : Tree) (ρ : List ℕ) : Type 0 where
    pub listed : transitions L m t ρ ≡ map (λ z. z.gives) (derived t ρ)
    pub derive : AllByRecursion (λ z. Derives L m t ρ z.by z.gives) (derived t ρ)
    pub once : (D : List Rule) (s : Transition Term) → Derives L m t ρ D s → (f : Transition Term → ℕ) → sum_by (λ z. cond (same_rules D z.by) (f z.gives) 0) (derived t ρ) ≡ f s

abbrev pub Enumerates : Type 0
Enumerates = (L : Meaning) (m : Model) (t : Tree) (ρ : List ℕ) → Enumerated L m t ρ
