-- Vectors and terms in words, and what is asked of the two sides: that they answer by the transitions of vectors and of terms.
use Rattle.std.specs.Prelude.{◌≡◌, ℕ, true, List, [], ◌∷◌}
use Rattle.language.specs.Meanings as language
use Rattle.linear.specs.Equations.{Vector}
use Rattle.system.specs.Systems.{Meaning, Delay}
use Rattle.system.specs.Systems as system
use Rattle.model.specs.Trees.{Tree}
use Rattle.source.specs.Models.{Model, Term}
use Rattle.behaviour.specs.Lists.{moves_as, delays_as}
use Rattle.behaviour.specs.Linearised.{start_vector, equation_of, stands, term_transitions}
use Rattle.behaviour.specs.Sets.{InSet, InTerms}
use Rattle.behaviour.specs.Vectors.{transitions_in}

abbrev pub vector_words : Vector → List ℕ
vector_words v = v.counter ∷ v.values

abbrev pub vector_of : List ℕ → Vector
vector_of [] = record { counter = 0; values = [] }
vector_of (c ∷ vs) = record { counter = c; values = vs }

abbrev pub term_words : Term → List ℕ
term_words t = t.place ∷ t.values

-- the term that a vector in words stands for
abbrev pub stands_for : language.Meaning → Model → List ℕ → Term
stands_for L m x = stands L m (vector_of x)

pub record LinearAnswers (L : language.Meaning) (m : Model) (linear : Meaning) (linear_delays : List ℕ → List Delay) : Type 0 where
  pub sound : system.Sound linear
  pub waits : system.SoundDelays linear linear_delays
  pub starts : linear.start ≡ vector_words (start_vector m)
  pub member : (x : List ℕ) → linear.member x ≡ true → InSet m (vector_of x)
  pub words : (x : List ℕ) → linear.member x ≡ true → vector_words (vector_of x) ≡ x
  pub moves : (x : List ℕ) → linear.member x ≡ true → linear.moves x ≡ moves_as vector_words (transitions_in L (equation_of L m) (vector_of x))
  pub delays : (x : List ℕ) → linear.member x ≡ true → linear_delays x ≡ delays_as vector_words (transitions_in L (equation_of L m) (vector_of x))

pub record SourceAnswers (L : language.Meaning) (m : Model) (tree : ℕ → Tree) (source : Meaning) (source_delays : List ℕ → List Delay) : Type 0 where
  pub member : (t : Term) → InTerms L m t → source.member (term_words t) ≡ true
  pub moves : (t : Term) → InTerms L m t → source.moves (term_words t) ≡ moves_as term_words (term_transitions L m tree t)
  pub delays : (t : Term) → InTerms L m t → source_delays (term_words t) ≡ delays_as term_words (term_transitions L m tree t)
