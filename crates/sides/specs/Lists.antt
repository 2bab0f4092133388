-- Transitions between states of any kind as the moves and delays of a system, whose states are words. Assumes nothing.
--     moves_as w ts, delays_as w ts    those of a list of transitions, where w gives a state's words
use Rattle.std.specs.Prelude.{ℕ, List, [], ◌∷◌, map}
use Rattle.std.specs.List.{flat_map}
use Rattle.valuation.specs.Transitions as transition
use Rattle.valuation.specs.Transitions.{Transition, move, wait}
use Rattle.system.specs.Systems.{Outcome, Move, Delay}

module _ {S : Type 0} (words : S → List ℕ) where
  abbrev pub outcome_as : transition.Outcome S → Outcome
  outcome_as o = record { weight = o.weight; target = words o.to }

  abbrev pub move_as : Transition S → List Move
  move_as (move a args outs) = record { action = a; arguments = args; outcomes = map outcome_as outs } ∷ []
  move_as (wait r s) = []

  abbrev pub delay_as : Transition S → List Delay
  delay_as (move a args outs) = []
  delay_as (wait r s) = record { rate = r; target = words s } ∷ []

  abbrev pub moves_as : List (Transition S) → List Move
  moves_as ts = flat_map move_as ts

  abbrev pub delays_as : List (Transition S) → List Delay
  delays_as ts = flat_map delay_as ts
