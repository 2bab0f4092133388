-- Sums over the values of a variable.
use Rattle.std.proofs.Common.{◌≡◌, ℕ, ◌+◌, List, [], ◌∷◌, map, set, sum_by, sym, refl, ap, ◌∙◌, map-id, arith}
use Rattle.std.specs.List.{range_with_len}
use Rattle.std.proofs.lemmas.List.FromFn.{sum_by-map-range_with_len_more}
use Rattle.std.proofs.lemmas.List.Sums.{sum_by-cons}
use Rattle.language.specs.Meanings.{Meaning}
use Rattle.valuation.specs.Transitions.{Outcome}
use Rattle.valuation.specs.Doings.{outcomes, total_weight}
use Rattle.valuation.specs.Valuations.{values_of}

sum_more : (f : ℕ → ℕ) (n : ℕ) → sum_by f (range_with_len 0 (n + 1)) ≡ sum_by f (range_with_len 0 n) + f n
sum_more f n =
    ap (sum_by f) (sym (map-id (range_with_len 0 (n + 1)))) ∙ sum_by-map-range_with_len_more f (λ x. x) 0 n n (omega arith) ∙ ap (λ xs. sum_by f xs + f n) (map-id (range_with_len 0 n))

pub sum_on : (f : ℕ → ℕ) (n s r : ℕ) → s ≡ sum_by f (range_with_len 0 n) → r ≡ f n → s + r ≡ sum_by f (range_with_len 0 (n + 1))
sum_on f n s r a b = omega (arith, sum_more f n)

sum_by_map : {X Y : Type 0} (g : Y → ℕ) (f : X → Y) (xs : List X) → sum_by g (map f xs) ≡ sum_by (λ x. g (f x)) xs
sum_by_map g f [] = refl
sum_by_map g f (x ∷ xs) = sum_by-cons g (f x) (map f xs) ∙ ap (λ n. g (f x) + n) (sum_by_map g f xs) ∙ sym (sum_by-cons (λ y. g (f y)) x xs)

-- the weights of an action's outcomes sum to the total, wherever they lead
pub total_is : {S : Type 0} (L : Meaning) (sizes : List ℕ) (x w : ℕ) (to : List ℕ → S) (ρ : List ℕ) → sum_by (λ (o : Outcome S). o.weight) (outcomes L sizes x w to ρ) ≡ total_weight L sizes x w ρ
total_is L sizes x w to ρ = sum_by_map (λ o. o.weight) (λ d. record { weight = L.value w (set ρ x d); to = to (set ρ x d) }) (values_of sizes x)
