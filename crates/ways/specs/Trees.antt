-- Trees of conditions, choices and sums over numbered leaves.
--     rising n b         the children of what stands at node n are higher, and below 256
--     planted n b tree   what stands at node n, with the trees of its children
use Rattle.std.specs.Prelude.{ℕ, Bool, true, ◌&&◌, nat_lt}
use Rattle.ways.specs.declared.branch.Branch.{Branch}
use Rattle.ways.specs.declared.branch.Branch.TheVariants.{Dead, Condition, Choice, Sum, Leaf}

pub data Tree : Type 0 where
  dead : Tree
  when : (e : ℕ) (t : Tree) → Tree
  choice : (l r : Tree) → Tree
  sum : (x : ℕ) (t : Tree) → Tree
  leaf : (n : ℕ) → Tree

-- nodes are numbered below this, and so many frames suffice
abbrev pub most_frames : ℕ
most_frames = 256

abbrev pub higher : ℕ → ℕ → Bool
higher n c = nat_lt n c && nat_lt c most_frames

abbrev pub rising : ℕ → Branch → Bool
rising n Dead = true
rising n (Condition e c) = higher n c
rising n (Choice l r) = higher n l && higher n r
rising n (Sum x c) = higher n c
rising n Leaf = true

abbrev pub planted : ℕ → Branch → (ℕ → Tree) → Tree
planted n Dead tree = dead
planted n (Condition e c) tree = when e (tree c)
planted n (Choice l r) tree = choice (tree l) (tree r)
planted n (Sum x c) tree = sum x (tree c)
planted n Leaf tree = leaf n
