-- What an action or a delay does under a valuation.
--     Does                         an action with its arguments, variable and weight; or a delay with its rate
--     outcomes L sizes x w to ρ    one for each value of x, from 0 up, its weight and target worked out with that value
--     total_weight L sizes x w ρ   the sum of their weights
--     does L sizes d to ρ          at most one transition: none where the weights' sum or the rate is 0; `to` gives the target
use Rattle.std.specs.Prelude.{ℕ, cond, List, [], ◌∷◌, map, sum_by, ◌==◌, slice_set}
use Rattle.language.specs.Meanings.{Meaning}
use Rattle.valuation.specs.Transitions.{Outcome, Transition, move, wait}
use Rattle.valuation.specs.Valuations.{values_of}

pub data Does : Type 0 where
  acts : (a : ℕ) (es : List ℕ) (x w : ℕ) → Does
  waits : (r : ℕ) → Does

module _ (L : Meaning) (sizes : List ℕ) where
  abbrev pub outcomes : {S : Type 0} → ℕ → ℕ → (List ℕ → S) → List ℕ → List (Outcome S)
  outcomes x w to ρ = map (λ d. record { weight = L.value w (slice_set ρ x d); to = to (slice_set ρ x d) }) (values_of sizes x)

  abbrev pub total_weight : ℕ → ℕ → List ℕ → ℕ
  total_weight x w ρ = sum_by (λ d. L.value w (slice_set ρ x d)) (values_of sizes x)

  abbrev pub does : {S : Type 0} → Does → (List ℕ → S) → List ℕ → List (Transition S)
  does (acts a es x w) to ρ =
      cond (sum_by (λ o. o.weight) (outcomes x w to ρ) == 0) []
      (move a (map (λ e. L.value e ρ) es) (outcomes x w to ρ) ∷ [])
  does (waits r) to ρ = cond (L.value r ρ == 0) [] (wait (L.value r ρ) (to ρ) ∷ [])
