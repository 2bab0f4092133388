-- Values, one for each variable, and conditions over them.
--     values_of sizes x     what variable x can hold: 0, 1, .. size − 1
--     each sizes f          one thing for each variable
--     cut sizes x v         the value v fitted to variable x: the largest it can hold where v passes that
--     holds L e ρ           the condition e holds under ρ: its value is not 0
--     spread sizes xs k ρ   k under ρ for all values of the variables xs, the first slowest
--     listed v              the values that a valuation of the program has
use Rattle.std.specs.Prelude.{ℕ, ◌-◌, min, Bool, not, List, [], ◌∷◌, map, length, take, ◌==◌, slice_index, slice_set}
use Rattle.std.specs.List.{range_with_len, flat_map, list_all}
use Rattle.language.specs.Meanings.{Meaning}
use Rattle.valuation.specs.declared.valuation.Valuation.{Valuation}

abbrev pub values_of : List ℕ → ℕ → List ℕ
values_of sizes x = range_with_len 0 (slice_index sizes x)

abbrev pub each : {X : Type 0} → List ℕ → (ℕ → X) → List X
each sizes f = map f (range_with_len 0 (length sizes))

abbrev pub cut : List ℕ → ℕ → ℕ → ℕ
cut sizes x v = min v (slice_index sizes x - 1)

abbrev pub holds : Meaning → ℕ → List ℕ → Bool
holds L e ρ = not (L.value e ρ == 0)

abbrev pub all_hold : Meaning → List ℕ → List ℕ → Bool
all_hold L es ρ = list_all (λ e. holds L e ρ) es

abbrev pub spread : {X : Type 0} → List ℕ → List ℕ → (List ℕ → List X) → List ℕ → List X
spread sizes [] k ρ = k ρ
spread sizes (x ∷ xs) k ρ = flat_map (λ d. spread sizes xs k (slice_set ρ x d)) (values_of sizes x)

abbrev pub listed : Valuation → List ℕ
listed v = take v.width v.values
