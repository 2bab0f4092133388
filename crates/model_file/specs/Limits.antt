-- What a file keeps that is a header and six sections, each within its limits, and nothing more.
--     InLimits bs   these rules, each by itself, at the places that the counts of bs give
use Rattle.std.specs.Prelude.{◌≡◌, ℕ, ◌+◌, ◌<◌, ◌≤◌, List, length, drop}
use Rattle.words.specs.Headers.{headed}
use Rattle.model_file.specs.declared.layout.Layout.{Layout}
use Rattle.model_file.specs.Layouts.{layout_of, end_at}
use Rattle.model_file.specs.Fields.{variable_count, size_of, process_count, first_of, number_of, start_of, value_of, action_count, arity_of, node_count, argument_count}

abbrev pub Between : ℕ → ℕ → ℕ → Type 0
Between low high n = (low ≤ n) × (n ≤ high)

-- `number` things from `first` on are among `total`; first is 0 where there are none
abbrev pub Run : ℕ → ℕ → ℕ → Type 0
Run total first number = (number ≡ 0 → first ≡ 0) × (0 < number → first + number ≤ total)

pub record Limits (bs : List ℕ) (l : Layout) : Type 0 where
  pub header : bs ≡ headed (drop 5 bs)
  pub variables : variable_count bs ≤ 16
  pub sizes : (v : ℕ) → v < variable_count bs → Between 1 256 (size_of bs v)
  pub processes : Between 1 16 (process_count bs l)
  pub parameters : (i : ℕ) → i < process_count bs l → (number_of bs l i ≤ 8) × Run (variable_count bs) (first_of bs l i) (number_of bs l i)
  pub start : start_of bs l < process_count bs l
  pub values : (k : ℕ) → k < number_of bs l (start_of bs l) → value_of bs l k < size_of bs (first_of bs l (start_of bs l) + k)
  pub actions : Between 1 64 (action_count bs l)
  pub internal : arity_of bs l 0 ≡ 0
  pub arities : (a : ℕ) → a < action_count bs l → arity_of bs l a ≤ 4
  pub nodes : Between 1 256 (node_count bs l)
  pub arguments : argument_count bs l ≤ 512
  pub whole : end_at bs l ≡ length bs

abbrev pub InLimits : List ℕ → Type 0
InLimits bs = Limits bs (layout_of bs)
