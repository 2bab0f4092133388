-- What a vector does by an equation.
--     entered, arrives   what an entry makes of a variable, and the vector that a summand leads to
--     fires              the transitions of a summand under a valuation: for all values of its sums that meet its conditions
--     transitions_in     those of a vector, by summand, actions first
use Rattle.std.specs.Prelude.{ℕ, cond, List, [], ◌++◌, ◌==◌, slice_index, slice_index_or}
use Rattle.std.specs.List.{flat_map}
use Rattle.language.specs.Meanings.{Meaning}
use Rattle.valuation.specs.Valuations.{each, cut, all_hold, spread}
use Rattle.valuation.specs.Doings.{Does, acts, waits, does}
use Rattle.valuation.specs.Transitions.{Transition}
use Rattle.linear.specs.Equations.{Acts, Leads, Summand, Vector, Linear}
use Rattle.linear.specs.declared.entry.Entry.{Entry}
use Rattle.linear.specs.declared.entry.Entry.TheVariants.{Reset, Keep, Take}

abbrev pub acting : Acts → Does
acting a = acts a.action a.arguments a.variable a.weight

module _ (L : Meaning) (sizes : List ℕ) where
  abbrev pub entered : Entry → List ℕ → ℕ → ℕ
  entered Reset ρ x = 0
  entered Keep ρ x = slice_index ρ x
  entered (Take e) ρ x = cut sizes x (L.value e ρ)

  abbrev pub arrives : Leads → List ℕ → Vector
  arrives l ρ = record { counter = l.counter; values = each sizes (λ x. entered (slice_index_or l.entries x Reset) ρ x) }

  module _ {D : Type 0} (doing : D → Does) where
    abbrev pub fires : Summand D → List ℕ → List (Transition Vector)
    fires s = spread sizes s.when.sums (λ ρ. cond (all_hold L s.when.conditions ρ) (does L sizes (doing s.does) (arrives s.leads) ρ) [])

    abbrev pub transitions_by : List (Summand D) → Vector → List (Transition Vector)
    transitions_by ss v = flat_map (λ s. cond (s.when.counter == v.counter) (fires s v.values) []) ss

abbrev pub transitions_in : Meaning → Linear → Vector → List (Transition Vector)
transitions_in L E v = transitions_by L E.sizes acting E.actions v ++ transitions_by L E.sizes waits E.delays v
