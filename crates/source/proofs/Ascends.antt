-- Derivations ascend.
use Rattle.std.proofs.Common.{ℕ, zero, suc, ◌+◌, ◌≤◌, Bool, true, false, cond, eqb, List, [], ◌∷◌, ◌++◌, map, get_or, set, sum_by, arith}
use Rattle.std.specs.List.{range_with_len, flat_map, AllByRecursion}
use Rattle.std.proofs.ByRecursion.{All-append}
use Rattle.language.specs.Meanings.{Meaning}
use Rattle.model.specs.Trees.{Tree, call, when, choice, sum, action, delay}
use Rattle.valuation.specs.Valuations.{holds}
use Rattle.valuation.specs.Transitions.{move, wait}
use Rattle.valuation.specs.Doings.{Does, acts, waits, outcomes, does}
use Rattle.source.specs.Models.{Model, Term, next}
use Rattle.source.specs.Terms.{target}
use Rattle.source.specs.Rules.{Rule, Implies, NChoiceL, NChoiceR, NSum, PSum, MStep, Derived, under, from, derived}
use Rattle.source.specs.Order.{Before, Ascending, sides, values, later}

all_before : (r : Rule) (D : List Rule) (zs : List Derived) → AllByRecursion (λ y. Before D y.by) zs → AllByRecursion (λ y. Before (r ∷ D) y.by) (map (under r) zs)
all_before r D [] a = tt
all_before r D (z ∷ zs) a = (later a.0, all_before r D zs a.1)

under_ascends : (r : Rule) (zs : List Derived) → Ascending zs → Ascending (map (under r) zs)
under_ascends r [] a = tt
under_ascends r (z ∷ zs) a = (all_before r z.by zs a.0, under_ascends r zs a.1)

append_ascends : (xs ys : List Derived) → Ascending xs → Ascending ys → AllByRecursion (λ x. AllByRecursion (λ y. Before x.by y.by) ys) xs → Ascending (xs ++ ys)
append_ascends [] ys a b h = b
append_ascends (x ∷ xs) ys a b h = (All-append _ xs ys a.0 h.0, append_ascends xs ys a.1 b h.1)

-- all of one list before all of another, by their first rules
all_all : (r s : Rule) → ((D E : List Rule) → Before (r ∷ D) (s ∷ E)) → (xs ys : List Derived) → AllByRecursion (λ x. AllByRecursion (λ y. Before x.by y.by) (map (under s) ys)) (map (under r) xs)
all_all r s h [] ys = tt
all_all r s h (x ∷ xs) ys = (one ys, all_all r s h xs ys)
  where
    one : (zs : List Derived) → AllByRecursion (λ y. Before (r ∷ x.by) y.by) (map (under s) zs)
    one [] = tt
    one (z ∷ zs) = (h x.by z.by, one zs)

all_joined : {X Y : Type 0} (P : Y → Type 0) (g : X → List Y) (xs : List X) → AllByRecursion (λ x. AllByRecursion P (g x)) xs → AllByRecursion P (flat_map g xs)
all_joined P g [] a = tt
all_joined P g (x ∷ xs) a = All-append P (g x) (flat_map g xs) a.0 (all_joined P g xs a.1)

all_later : (P : ℕ → Type 0) (b a k : ℕ) → b ≤ a → ((d : ℕ) → b ≤ d → P d) → AllByRecursion P (range_with_len a k)
all_later P b a zero l h = tt
all_later P b a (suc k) l h = (h a l, all_later P b (a + 1) k (omega arith) h)

-- a sum's values upwards
sum_ascends : (f : ℕ → List Derived) → ((d : ℕ) → Ascending (f d)) → (a k : ℕ) → Ascending (flat_map (λ d. map (under (NSum d)) (f d)) (range_with_len a k))
sum_ascends f h a zero = tt
sum_ascends f h a (suc k) =
    append_ascends (map (under (NSum a)) (f a)) (flat_map (λ d. map (under (NSum d)) (f d)) (range_with_len (a + 1) k)) (under_ascends (NSum a) (f a) (h a)) (sum_ascends f h (a + 1) k) (each_one (f a))
  where
    each_one : (xs : List Derived) → AllByRecursion (λ x. AllByRecursion (λ y. Before x.by y.by) (flat_map (λ d. map (under (NSum d)) (f d)) (range_with_len (a + 1) k))) (map (under (NSum a)) xs)
    each_one [] = tt
    each_one (x ∷ xs) =
        (all_joined _ (λ d. map (under (NSum d)) (f d)) (range_with_len (a + 1) k) (all_later _ (a + 1) (a + 1) k (omega arith) (λ d l. after d l (f d))), each_one xs)
      where
        after : (d : ℕ) → a + 1 ≤ d → (zs : List Derived) → AllByRecursion (λ y. Before (NSum a ∷ x.by) y.by) (map (under (NSum d)) zs)
        after d l [] = tt
        after d l (z ∷ zs) = (values (omega arith), after d l zs)

one_ascends : (r : Rule) (L : Meaning) (sizes : List ℕ) (k : Does) (to : List ℕ → Term) (ρ : List ℕ) → Ascending (map (from r) (does L sizes k to ρ))
one_ascends r L sizes (acts a es x w) to ρ = go (eqb (sum_by (λ o. o.weight) (outcomes L sizes x w to ρ)) 0)
  where
    go : (b : Bool) → Ascending (map (from r) (cond b [] (move a (map (λ e. L.value e ρ) es) (outcomes L sizes x w to ρ) ∷ [])))
    go true = tt
    go false = (tt, tt)
one_ascends r L sizes (waits e) to ρ = go (eqb (L.value e ρ) 0)
  where
    go : (b : Bool) → Ascending (map (from r) (cond b [] (wait (L.value e ρ) (to ρ) ∷ [])))
    go true = tt
    go false = (tt, tt)

module _ (L : Meaning) (m : Model) where
  pub ascends : (t : Tree) (ρ : List ℕ) → Ascending (derived L m t ρ)
  ascends (call n p es) ρ = tt
  ascends (when n e t) ρ = go (holds L e ρ) (ascends t ρ)
    where
      go : (b : Bool) → Ascending (derived L m t ρ) → Ascending (cond b (map (under Implies) (derived L m t ρ)) [])
      go true a = under_ascends Implies (derived L m t ρ) a
      go false a = tt
  ascends (choice n l r) ρ =
      append_ascends (map (under NChoiceL) (derived L m l ρ)) (map (under NChoiceR) (derived L m r ρ)) (under_ascends NChoiceL (derived L m l ρ) (ascends l ρ)) (under_ascends NChoiceR (derived L m r ρ) (ascends r ρ))
      (all_all NChoiceL NChoiceR (λ D E. sides) (derived L m l ρ) (derived L m r ρ))
  ascends (sum n x t) ρ = sum_ascends (λ d. derived L m t (set ρ x d)) (λ d. ascends t (set ρ x d)) 0 (get_or m.sizes x 0)
  ascends (action n a es x w t) ρ = one_ascends PSum L m.sizes (acts a es x w) (target L m (next t)) ρ
  ascends (delay n r t) ρ = one_ascends MStep L m.sizes (waits r) (target L m (next t)) ρ
