-- The derivations of a term, as a list in order.
--     term L sizes t v      the term of the place t with these values at its free variables
--     given L m p es ρ x    the value of x after a call: each parameter given its argument, all worked out under ρ
--     target L m n ρ        where an action or a delay leads
--     transitions L m t ρ   the derivations' results: a condition that holds gives its child's, a choice its left child's and
--                           then its right's, a sum its child's for 0, 1 and so on, an action and a delay at most one
--     start_term L m        the start process's body with its values
use Rattle.std.specs.Prelude.{ℕ, ◌-◌, cond, List, [], ◌++◌, slice_index, slice_set}
use Rattle.std.specs.List.{flat_map}
use Rattle.language.specs.Meanings.{Meaning}
use Rattle.model.specs.Trees.{Tree, call, when, choice, sum, action, delay}
use Rattle.valuation.specs.Valuations.{values_of, each, cut, holds}
use Rattle.valuation.specs.Transitions.{Transition}
use Rattle.valuation.specs.Doings.{acts, waits, does}
use Rattle.source.specs.Free.{free}
use Rattle.source.specs.Models.{Model, Term, Next, calls, rests, next, node, process, param}

module _ (L : Meaning) (sizes : List ℕ) where
  abbrev pub term : Tree → (ℕ → ℕ) → Term
  term t v = record { place = node t; values = each sizes (λ x. cond (free L t x) (v x) 0) }

module _ (L : Meaning) (m : Model) where
  abbrev pub given : ℕ → List ℕ → List ℕ → ℕ → ℕ
  given p es ρ x = cond (param (process m p) x) (cut m.sizes x (L.value (slice_index es (x - (process m p).first)) ρ)) 0

  abbrev pub target : Next → List ℕ → Term
  target (calls p es) ρ = term L m.sizes (process m p).body (given p es ρ)
  target (rests t) ρ = term L m.sizes t (λ x. slice_index ρ x)

  abbrev pub transitions : Tree → List ℕ → List (Transition Term)
  transitions (call n p es) ρ = []
  transitions (when n e t) ρ = cond (holds L e ρ) (transitions t ρ) []
  transitions (choice n l r) ρ = transitions l ρ ++ transitions r ρ
  transitions (sum n x t) ρ = flat_map (λ d. transitions t (slice_set ρ x d)) (values_of m.sizes x)
  transitions (action n a es x w t) ρ = does L m.sizes (acts a es x w) (target (next t)) ρ
  transitions (delay n r t) ρ = does L m.sizes (waits r) (target (next t)) ρ

abbrev pub start_value : Model → ℕ → ℕ
start_value m x = cond (param (process m m.begins) x) (slice_index m.values (x - (process m m.begins).first)) 0

abbrev pub start_term : Meaning → Model → Term
start_term L m = term L m.sizes (process m m.begins).body (start_value m)
