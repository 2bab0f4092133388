-- Sums one in another, and a leaf: the tree of a summand, whose n-th sum is node n.
use Rattle.std.specs.Prelude.{ℕ, zero, suc, List, [], ◌∷◌}
use Rattle.ways.specs.Trees.{Tree, dead, sum, leaf}

abbrev pub chain : ℕ → List ℕ → Tree
chain n [] = leaf n
chain n (x ∷ xs) = sum x (chain (suc n) xs)

-- the tree at its n-th node
abbrev pub chain_from : ℕ → List ℕ → ℕ → Tree
chain_from i [] zero = leaf i
chain_from i [] (suc n) = dead
chain_from i (x ∷ xs) zero = chain i (x ∷ xs)
chain_from i (x ∷ xs) (suc n) = chain_from (suc i) xs n

abbrev pub chain_at : List ℕ → ℕ → Tree
chain_at xs n = chain_from 0 xs n
