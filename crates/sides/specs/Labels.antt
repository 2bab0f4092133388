-- The label of an action under a valuation. Assumes nothing.
--     values_of L es ρ    the values of the expressions es
--     labelled L a es ρ   the action a with the values of its arguments
use Rattle.std.specs.Prelude.{ℕ, List, map, length}
use Rattle.language.specs.Meanings.{Meaning}
use Rattle.system.specs.Questions.{padded}
use Rattle.system.specs.declared.answers.Label.{Label}

abbrev pub values_of : Meaning → List ℕ → List ℕ → List ℕ
values_of L es ρ = map (λ e. L.value e ρ) es

abbrev pub labelled : Meaning → ℕ → List ℕ → List ℕ → Label
labelled L a es ρ = record { action = a; count = length (values_of L es ρ); values = padded (values_of L es ρ) }
