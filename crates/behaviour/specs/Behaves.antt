-- That a linear system behaves as a model. `linear` is a system whose states are vectors in words, `source` one whose states are
-- terms in words; `stands` gives the term that a vector stands for, and `words` the words of a term.
use Rattle.std.specs.Prelude.{◌≡◌, ℕ, ◌≤◌, true, List, map, length, sum_by, count_by, ◌≢◌}
use Rattle.language.specs.Meanings as language
use Rattle.system.specs.Systems.{Move, Delay, Meaning}
use Rattle.system.specs.Walks.{trail, played}
use Rattle.system.specs.declared.answers.Call.{Call}
use Rattle.system.specs.declared.answers.Step.{Step}
use Rattle.model.specs.Trees.{Tree}
use Rattle.source.specs.Models.{Model, Term}
use Rattle.behaviour.specs.Reached.{Reached}
use Rattle.behaviour.specs.Lists.{move_to, delay_to, same_move, rate_into}

pub record Behaves (L : language.Meaning) (m : Model) (tree : ℕ → Tree)
    (linear : Meaning) (linear_delays : List ℕ → List Delay) (source : Meaning) (source_delays : List ℕ → List Delay)
    (stands : List ℕ → Term) (words : Term → List ℕ) : Type 0 where
  -- whatever is called on a new walk over the equation, refused calls included, its vector stands for a term that the model
  -- reaches by the steps of the walk's trail
  pub walks : (calls : List Call) → Reached L m tree (trail (played linear linear_delays calls).past) (stands (played linear linear_delays calls).here)
  -- and what the model reaches by at most 64 steps, some calls reach, with those steps for a trail
  pub reaches : (ts : List Step) (t : Term) → Reached L m tree ts t → length ts ≤ 64
      → (calls : List Call) × (trail (played linear linear_delays calls).past ≡ ts) × (stands (played linear linear_delays calls).here ≡ t)
  -- a vector has as many moves with any action, arguments and list of weights with target terms as the term it stands for
  pub moves : (x : List ℕ) → linear.member x ≡ true → (v : Move)
      → count_by (same_move v) (map (move_to (λ y. words (stands y))) (linear.moves x)) ≡ count_by (same_move v) (source.moves (words (stands x)))
  -- and the rates of its delays into any term have the same sum
  pub rates : (x : List ℕ) → linear.member x ≡ true → (t : List ℕ)
      → sum_by (rate_into t) (map (delay_to (λ y. words (stands y))) (linear_delays x)) ≡ sum_by (rate_into t) (source_delays (words (stands x)))
  -- whatever is summed over its moves, and over its delays
  pub all_moves : (x : List ℕ) → linear.member x ≡ true → (f : Move → ℕ)
      → sum_by f (map (move_to (λ y. words (stands y))) (linear.moves x)) ≡ sum_by f (source.moves (words (stands x)))
  pub all_delays : (x : List ℕ) → linear.member x ≡ true → (g : Delay → ℕ)
      → sum_by g (map (delay_to (λ y. words (stands y))) (linear_delays x)) ≡ sum_by g (source_delays (words (stands x)))
  -- the term is a state of the source
  pub stays : (x : List ℕ) → linear.member x ≡ true → source.member (words (stands x)) ≡ true

-- what is counted is what it says: moves that are the one given, rates of delays into the state given
pub record Counted : Type 0 where
  pub same : (v u : Move) → same_move v u ≡ true → v ≡ u
  pub always : (v : Move) → same_move v v ≡ true
  pub into : (t : List ℕ) (d : Delay) → d.target ≡ t → rate_into t d ≡ d.rate
  pub elsewhere : (t : List ℕ) (d : Delay) → (d.target ≢ t) → rate_into t d ≡ 0
