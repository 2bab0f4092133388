-- The trees of a flat model: each node with its children in place of their numbers.
--     grown g i ns   the trees of the nodes ns, the first of which is node i
--     tree_of g n    the tree of node n
use Rattle.std.specs.Prelude.{ℕ, suc, ◌-◌, List, [], ◌∷◌, slice_index_or}
use Rattle.model_rules.specs.Shapes.{Shape}
use Rattle.model_rules.specs.declared.shape.Shape.TheVariants as shape
use Rattle.model.specs.Flat.{Flat}
use Rattle.model.specs.Nodes.{call_arity, action_arity, arguments_from}

-- each constructor begins with its node's number
pub data Tree : Type 0 where
  call : (n p : ℕ) (es : List ℕ) → Tree
  when : (n e : ℕ) (t : Tree) → Tree
  choice : (n : ℕ) (l r : Tree) → Tree
  sum : (n x : ℕ) (t : Tree) → Tree
  action : (n a : ℕ) (es : List ℕ) (x w : ℕ) (t : Tree) → Tree
  delay : (n r : ℕ) (t : Tree) → Tree

module _ (g : Flat) where
  -- node n, where `kid` has the trees of its children
  abbrev pub planted : ℕ → Shape → (ℕ → Tree) → Tree
  planted n (shape.Call p f) kid = call n p (arguments_from g f (call_arity g p))
  planted n (shape.Condition e c) kid = when n e (kid c)
  planted n (shape.Choice x y) kid = choice n (kid x) (kid y)
  planted n (shape.Sum v c) kid = sum n v (kid c)
  planted n (shape.Action a f v w c) kid = action n a (arguments_from g f (action_arity g a)) v w (kid c)
  planted n (shape.Delay r c) kid = delay n r (kid c)

  -- a child's number is higher than its parent's
  abbrev pub grown : ℕ → List Shape → List Tree
  grown i [] = []
  grown i (k ∷ ks) = let ts = grown (suc i) ks in planted i k (λ c. slice_index_or ts (c - suc i) (call 0 0 [])) ∷ ts

  abbrev pub tree_of : ℕ → Tree
  tree_of n = slice_index_or (grown 0 g.nodes) n (call 0 0 [])
