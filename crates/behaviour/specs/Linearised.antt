-- The equation of a model, and the term that a vector stands for.
--     entries_of              towards a call the parameters take their arguments; else the next place's free variables are kept; all others are reset
--     actions_of, delays_of   a summand for each way that acts, and for each that waits, in node order
--     equation_of             the equation
--     stands                  the term of a vector: its place with its values at the free variables
--     standing                a vector's transitions, each target the term that it stands for
use Rattle.std.specs.Prelude.{ℕ, ◌-◌, cond, List, [], ◌∷◌, map, length, slice_index}
use Rattle.std.specs.List.{flat_map}
use Rattle.language.specs.Meanings.{Meaning}
use Rattle.valuation.specs.Valuations.{each}
use Rattle.valuation.specs.Doings.{Does, acts, waits}
use Rattle.valuation.specs.Transitions.{Outcome, Transition, move, wait}
use Rattle.linear.specs.Equations.{Acts, Leads, Summand, Vector, Linear}
use Rattle.linear.specs.declared.entry.Entry.{Entry}
use Rattle.linear.specs.declared.entry.Entry.TheVariants.{Reset, Keep, Take}
use Rattle.source.specs.Free.{free}
use Rattle.source.specs.Models.{Model, Term, Next, calls, rests, node, process, param}
use Rattle.source.specs.Terms.{term, start_value, transitions}
use Rattle.model.specs.Trees.{Tree}
use Rattle.source.specs.Places.{places, counter, place}
use Rattle.behaviour.specs.Vectors.{transitions_in}
use Rattle.behaviour.specs.Ways.{Way, all_ways}

-- one target for another
abbrev pub outcome_to : {S R : Type 0} → (S → R) → Outcome S → Outcome R
outcome_to f o = record { weight = o.weight; to = f o.to }

abbrev pub transition_to : {S R : Type 0} → (S → R) → Transition S → Transition R
transition_to f (move a args outs) = move a args (map (outcome_to f) outs)
transition_to f (wait r s) = wait r (f s)

-- the transitions of a term: those of the tree of its place under its values
abbrev pub term_transitions : Meaning → (m : Model) → (ℕ → Tree) → Term → List (Transition Term)
term_transitions L m tree s = transitions L m (tree s.place) s.values

abbrev pub start_vector : Model → Vector
start_vector m = record { counter = counter m (node (process m m.begins).body); values = each m.sizes (start_value m) }

-- what a node does, as one that acts, or as one that waits at a rate
abbrev pub acts_in : Does → List Acts
acts_in (acts a es x w) = record { action = a; arguments = es; variable = x; weight = w } ∷ []
acts_in (waits r) = []

abbrev pub rates_in : Does → List ℕ
rates_in (acts a es x w) = []
rates_in (waits r) = r ∷ []

module _ (L : Meaning) (m : Model) where
  abbrev pub goes_to : Next → ℕ
  goes_to (calls p es) = counter m (node (process m p).body)
  goes_to (rests t) = counter m (node t)

  abbrev pub entries_of : Next → List Entry
  entries_of (calls p es) = each m.sizes (λ x. cond (param (process m p) x) (Take (slice_index es (x - (process m p).first))) Reset)
  entries_of (rests t) = each m.sizes (λ x. cond (free L t x) Keep Reset)

  abbrev pub leads_to : Next → Leads
  leads_to n = record { counter = goes_to n; entries = entries_of n }

  abbrev pub summand : {D : Type 0} → ℕ × Way → D → Summand D
  summand z d = record { when = record { counter = z.0; sums = z.1.sums; conditions = z.1.conditions }; does = d; leads = leads_to z.1.then }

  abbrev pub summands_of : {D : Type 0} → (Does → List D) → List (ℕ × Way) → List (Summand D)
  summands_of pick zs = flat_map (λ z. map (summand z) (pick z.1.doing)) zs

  abbrev pub equation_of : Linear
  equation_of = record {
    sizes = m.sizes;
    counters = length (places m);
    first = start_vector m;
    actions = summands_of acts_in (all_ways m);
    delays = summands_of rates_in (all_ways m);
  }

  abbrev pub stands : Vector → Term
  stands v = term L m.sizes (place m v.counter) (λ x. slice_index v.values x)

  abbrev pub standing : Vector → List (Transition Term)
  standing v = map (transition_to stands) (transitions_in L equation_of v)
