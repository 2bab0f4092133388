-- What the equation of a model keeps of its terms, for vectors and terms as records.
use Rattle.std.specs.Prelude.{◌≡◌, ℕ, List, sum_by}
use Rattle.std.specs.List.{AllByRecursion}
use Rattle.language.specs.Meanings.{Meaning, Lawful}
use Rattle.valuation.specs.Transitions.{Transition}
use Rattle.linear.specs.Equations.{Vector}
use Rattle.source.specs.Models.{Model, Term}
use Rattle.source.specs.Terms.{start_term}
use Rattle.source.specs.Sound.{Fits, Sound}
use Rattle.behaviour.specs.Vectors.{transitions_in}
use Rattle.behaviour.specs.Linearised.{equation_of, stands, standing, start_vector, term_transitions}
use Rattle.behaviour.specs.Sets.{InSet, InTerms, To}
use Rattle.behaviour.specs.Sides.{stands_for, term_words, LinearAnswers, SourceAnswers}
use Rattle.behaviour.specs.Behaves.{Behaves}
use Rattle.system.specs.Systems as system

module _ (L : Meaning) (m : Model) (s : Sound m) where
  pub record Kept : Type 0 where
    -- both sides have the same transitions, each as often, whatever is counted of a transition
    pub same : (v : Vector) → InSet m v → (f : Transition Term → ℕ) → sum_by f (term_transitions L m s.tree (stands L m v)) ≡ sum_by f (standing L m v)
    -- targets of vectors are vectors, and of terms terms
    pub closed : (v : Vector) → InSet m v → AllByRecursion (To (InSet m)) (transitions_in L (equation_of L m) v)
    pub terms_closed : (t : Term) → InTerms L m t → AllByRecursion (To (InTerms L m)) (term_transitions L m s.tree t)
    -- the first vector is a vector, and stands for the first term
    pub starts : InSet m (start_vector m) × InTerms L m (start_term L m) × (stands L m (start_vector m) ≡ start_term L m)

abbrev pub Keeps : Type 0
Keeps = (L : Meaning) (m : Model) → Lawful L → Fits L m → (s : Sound m) → Kept L m s

-- over any two sides that answer by these transitions, the equation behaves as the model
abbrev pub BehavesOverSides : Type 0
BehavesOverSides =
    (L : Meaning) (m : Model) → Lawful L → Fits L m → (s : Sound m)
    (linear : system.Meaning) (linear_delays : List ℕ → List system.Delay) (source : system.Meaning) (source_delays : List ℕ → List system.Delay)
    → LinearAnswers L m linear linear_delays → SourceAnswers L m s.tree source source_delays
    → Behaves L m s.tree linear linear_delays source source_delays (stands_for L m) term_words
