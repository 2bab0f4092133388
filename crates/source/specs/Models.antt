-- A model whose processes have trees, and its terms.
--     model_of g    the model of a flat one
--     process m p   process p; where there is none, one without parameters
--     param q x     variable x is a parameter of the process q
--     node t        the number of a tree's node
--     next t        where the child t of an action or a delay leads: it calls a process, or is itself a place
--     Term          a resting place and V values, 0 where not free
use Rattle.std.specs.Prelude.{ℕ, ◌+◌, Bool, ◌&&◌, List, [], map, length, nat_le, nat_lt, slice_index_or}
use Rattle.model.specs.Flat.{Flat}
use Rattle.model.specs.Trees.{Tree, call, when, choice, sum, action, delay, tree_of}
use Rattle.model.specs.declared.node.Process as header

pub record Process : Type 0 where
  pub first : ℕ
  pub params : ℕ
  pub body : Tree

pub record Model : Type 0 where
  pub sizes : List ℕ
  pub processes : List Process
  pub begins : ℕ
  pub values : List ℕ
  pub nodes : ℕ

pub record Term : Type 0 where
  pub place : ℕ
  pub values : List ℕ

abbrev pub headed : Flat → header.Process → Process
headed g q = record { first = q.first; params = q.number; body = tree_of g q.body }

abbrev pub model_of : Flat → Model
model_of g = record {
  sizes = g.sizes;
  processes = map (headed g) g.processes;
  begins = g.start;
  values = g.values;
  nodes = length g.nodes;
}

abbrev pub node : Tree → ℕ
node (call n p es) = n
node (when n e t) = n
node (choice n l r) = n
node (sum n x t) = n
node (action n a es x w t) = n
node (delay n r t) = n

pub data Next : Type 0 where
  calls : (p : ℕ) (es : List ℕ) → Next
  rests : (t : Tree) → Next

abbrev pub next : Tree → Next
next (call n p es) = calls p es
next (when n e t) = rests (when n e t)
next (choice n l r) = rests (choice n l r)
next (sum n x t) = rests (sum n x t)
next (action n a es x w t) = rests (action n a es x w t)
next (delay n r t) = rests (delay n r t)

abbrev pub no_process : Process
no_process = record { first = 0; params = 0; body = call 0 0 [] }

abbrev pub process : Model → ℕ → Process
process m p = slice_index_or m.processes p no_process

abbrev pub param : Process → ℕ → Bool
param q x = nat_le q.first x && nat_lt x (q.first + q.params)
