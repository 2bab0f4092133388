-- Transitions between states of any kind as the moves and delays of a system, whose states are words.
--     moves_as w ts, delays_as w ts    those of a list of transitions, where w gives a state's words
--     move_to g, delay_to g            one target for another
--     same_move, rate_into             what is counted of them
use Rattle.std.specs.Prelude.{ℕ, Bool, cond, ◌&&◌, List, [], ◌∷◌, map, ◌==◌, nat_eq}
use Rattle.std.specs.List.{flat_map}
use Rattle.valuation.specs.Transitions as transition
use Rattle.valuation.specs.Transitions.{Transition, move, wait}
use Rattle.system.specs.Systems.{Outcome, Move, Delay}
use Rattle.source.specs.Rules.{same_list}

module _ {S : Type 0} (words : S → List ℕ) where
  abbrev pub outcome_as : transition.Outcome S → Outcome
  outcome_as o = record { weight = o.weight; target = words o.to }

  abbrev pub move_as : Transition S → List Move
  move_as (move a args outs) = record { action = a; arguments = args; outcomes = map outcome_as outs } ∷ []
  move_as (wait r s) = []

  abbrev pub delay_as : Transition S → List Delay
  delay_as (move a args outs) = []
  delay_as (wait r s) = record { rate = r; target = words s } ∷ []

  abbrev pub moves_as : List (Transition S) → List Move
  moves_as ts = flat_map move_as ts

  abbrev pub delays_as : List (Transition S) → List Delay
  delays_as ts = flat_map delay_as ts

module _ (g : List ℕ → List ℕ) where
  abbrev pub outcome_to : Outcome → Outcome
  outcome_to o = record { weight = o.weight; target = g o.target }

  abbrev pub move_to : Move → Move
  move_to v = record { action = v.action; arguments = v.arguments; outcomes = map outcome_to v.outcomes }

  abbrev pub delay_to : Delay → Delay
  delay_to d = record { rate = d.rate; target = g d.target }

abbrev pub same_words : List ℕ → List ℕ → Bool
same_words = same_list nat_eq

abbrev pub same_outcome : Outcome → Outcome → Bool
same_outcome o p = o.weight == p.weight && same_words o.target p.target

-- the same action, arguments and list of weights with targets
abbrev pub same_move : Move → Move → Bool
same_move v u = v.action == u.action && (same_words v.arguments u.arguments && same_list same_outcome v.outcomes u.outcomes)

-- the rate at which a delay goes to this state
abbrev pub rate_into : List ℕ → Delay → ℕ
rate_into t d = cond (same_words t d.target) d.rate 0
