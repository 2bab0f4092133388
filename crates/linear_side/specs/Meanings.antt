-- A linear equation under a data language as a system. Its states are vectors in words: the program counter, then the values.
--     vector_words, vector_of         the words of a vector, and the vector of words
--     is_vector E x                   the words are a vector: a program counter of E, and a value below its size for each variable
--     linear_meaning, linear_delays   the system
use Rattle.std.specs.Prelude.{ℕ, suc, Bool, false, ◌&&◌, List, [], ◌∷◌, length}
use Rattle.language.specs.Meanings as language
use Rattle.linear.specs.Equations.{Vector, Linear}
use Rattle.linear.specs.Laws.{within, fitted}
use Rattle.system.specs.Systems.{Meaning, Delay}
use Rattle.sides.specs.Lists.{moves_as, delays_as}
use Rattle.linear_side.specs.Vectors.{transitions_in}

abbrev pub vector_words : Vector → List ℕ
vector_words v = v.counter ∷ v.values

abbrev pub vector_of : List ℕ → Vector
vector_of [] = record { counter = 0; values = [] }
vector_of (c ∷ vs) = record { counter = c; values = vs }

abbrev pub is_vector : Linear → List ℕ → Bool
is_vector E [] = false
is_vector E (c ∷ vs) = within 1 E.counters c && fitted E.sizes vs

module _ (L : language.Meaning) (E : Linear) where
  abbrev pub linear_meaning : Meaning
  linear_meaning = record {
    width = suc (length E.sizes);
    member = is_vector E;
    start = vector_words E.first;
    moves = λ x. moves_as vector_words (transitions_in L E (vector_of x));
  }

  abbrev pub linear_delays : List ℕ → List Delay
  linear_delays x = delays_as vector_words (transitions_in L E (vector_of x))
