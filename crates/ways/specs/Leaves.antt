-- The leaves of a tree under a valuation, in order: left before right, a sum's values upwards.
--     leaves L sizes t ρ   each leaf with the valuation on the way that leads there
--     living p L ..        those that pass the test p
--     most sizes t         how many there are where every condition holds
--     leaf_of f            a leaf that the program found
use Rattle.std.specs.Prelude.{ℕ, ◌+◌, ◌*◌, ◌^◌, Bool, cond, List, [], ◌∷◌, ◌++◌, filter, slice_index, slice_set}
use Rattle.std.specs.List.{flat_map}
use Rattle.language.specs.Meanings.{Meaning}
use Rattle.valuation.specs.Valuations.{values_of, holds, listed}
use Rattle.ways.specs.declared.branch.Found.{Found}
use Rattle.ways.specs.Trees.{Tree, dead, when, choice, sum, leaf}

pub record Leaf : Type 0 where
  pub node : ℕ
  pub values : List ℕ

module _ (L : Meaning) (sizes : List ℕ) where
  abbrev pub leaves : Tree → List ℕ → List Leaf
  leaves dead ρ = []
  leaves (when e t) ρ = cond (holds L e ρ) (leaves t ρ) []
  leaves (choice l r) ρ = leaves l ρ ++ leaves r ρ
  leaves (sum x t) ρ = flat_map (λ d. leaves t (slice_set ρ x d)) (values_of sizes x)
  leaves (leaf n) ρ = record { node = n; values = ρ } ∷ []

abbrev pub living : (Meaning → Leaf → Bool) → Meaning → List ℕ → Tree → List ℕ → List Leaf
living p L sizes t ρ = filter (p L) (leaves L sizes t ρ)

abbrev pub most : List ℕ → Tree → ℕ
most sizes dead = 0
most sizes (when e t) = most sizes t
most sizes (choice l r) = most sizes l + most sizes r
most sizes (sum x t) = slice_index sizes x * most sizes t
most sizes (leaf n) = 1

-- no tree has more
abbrev pub most_leaves : ℕ
most_leaves = 2 ^ 24

abbrev pub leaf_of : Found → Leaf
leaf_of f = record { node = f.node; values = listed f.valuation }
