-- A model under a data language as a system. Its states are terms in words: the node of a resting place, then the values.
-- `kept n x` tells whether the term of place n has a value for variable x; elsewhere the value is 0. The term side of a model
-- keeps the free variables (free_in).
--     term_words, term_of         the words of a term, and the term of words
--     kept_term, kept_target      the term of a place with these values; where an action or a delay leads
--     kept_transitions            the transitions of a tree, as `transitions` has them, but that terms have what is kept
--     is_term bs kept x           the words are a term: a resting place, and a value below its size for each variable, 0 where not kept
--     term_meaning, term_delays   the system
use Rattle.std.specs.Prelude.{ℕ, suc, Bool, true, false, cond, ◌&&◌, ◌||◌, List, [], ◌∷◌, ◌++◌, length, ◌==◌, nat_lt, slice_index, slice_set}
use Rattle.std.specs.List.{flat_map}
use Rattle.language.specs.Meanings as language
use Rattle.model_file.specs.Fields.{node_count}
use Rattle.model_file.specs.Layouts.{layout_of}
use Rattle.model_rules.specs.Tallies.{resting}
use Rattle.model.specs.Flat.{flat}
use Rattle.model.specs.Trees.{Tree, call, when, choice, sum, action, delay, tree_of}
use Rattle.valuation.specs.Valuations.{values_of, each, holds}
use Rattle.valuation.specs.Transitions.{Transition}
use Rattle.valuation.specs.Doings.{acts, waits, does}
use Rattle.system.specs.Systems.{Meaning, Delay}
use Rattle.sides.specs.Lists.{moves_as, delays_as}
use Rattle.source.specs.Free.{free}
use Rattle.source.specs.Models.{Model, model_of, Term, Next, calls, rests, next, node, process}
use Rattle.source.specs.Terms.{given, start_value}

abbrev pub term_words : Term → List ℕ
term_words t = t.place ∷ t.values

abbrev pub term_of : List ℕ → Term
term_of [] = record { place = 0; values = [] }
term_of (n ∷ vs) = record { place = n; values = vs }

-- the free variables of the tree at each node
abbrev pub free_in : language.Meaning → List ℕ → ℕ → ℕ → Bool
free_in L bs n x = free L (tree_of (flat bs) n) x

module _ (L : language.Meaning) (m : Model) (kept : ℕ → ℕ → Bool) where
  abbrev pub kept_term : Tree → (ℕ → ℕ) → Term
  kept_term t v = record { place = node t; values = each m.sizes (λ x. cond (kept (node t) x) (v x) 0) }

  abbrev pub kept_target : Next → List ℕ → Term
  kept_target (calls p es) ρ = kept_term (process m p).body (given L m p es ρ)
  kept_target (rests t) ρ = kept_term t (λ x. slice_index ρ x)

  abbrev pub kept_transitions : Tree → List ℕ → List (Transition Term)
  kept_transitions (call n p es) ρ = []
  kept_transitions (when n e t) ρ = cond (holds L e ρ) (kept_transitions t ρ) []
  kept_transitions (choice n l r) ρ = kept_transitions l ρ ++ kept_transitions r ρ
  kept_transitions (sum n x t) ρ = flat_map (λ d. kept_transitions t (slice_set ρ x d)) (values_of m.sizes x)
  kept_transitions (action n a es x w t) ρ = does L m.sizes (acts a es x w) (kept_target (next t)) ρ
  kept_transitions (delay n r t) ρ = does L m.sizes (waits r) (kept_target (next t)) ρ

-- each value is below its size, and 0 where its variable is not kept; the first is that of variable k
abbrev pub fitted_from : (ℕ → Bool) → ℕ → List ℕ → List ℕ → Bool
fitted_from kept k [] [] = true
fitted_from kept k [] (v ∷ vs) = false
fitted_from kept k (n ∷ ns) [] = false
fitted_from kept k (n ∷ ns) (v ∷ vs) = nat_lt v n && (kept k || v == 0) && fitted_from kept (suc k) ns vs

module _ (bs : List ℕ) (kept : ℕ → ℕ → Bool) where
  abbrev pub is_term : List ℕ → Bool
  is_term [] = false
  is_term (n ∷ vs) = nat_lt n (node_count bs (layout_of bs)) && resting bs (layout_of bs) n && fitted_from (kept n) 0 (flat bs).sizes vs

module _ (L : language.Meaning) (bs : List ℕ) (kept : ℕ → ℕ → Bool) where
  -- the transitions of a term in words
  abbrev pub word_transitions : List ℕ → List (Transition Term)
  word_transitions x = kept_transitions L (model_of (flat bs)) kept (tree_of (flat bs) (term_of x).place) (term_of x).values

  abbrev pub first_term : Term
  first_term = let m = model_of (flat bs) in kept_term L m kept (process m m.begins).body (start_value m)

  abbrev pub term_meaning : Meaning
  term_meaning = record {
    width = suc (length (flat bs).sizes);
    member = is_term bs kept;
    start = term_words first_term;
    moves = λ x. moves_as term_words (word_transitions x);
  }

  abbrev pub term_delays : List ℕ → List Delay
  term_delays x = delays_as term_words (word_transitions x)
