-- Nodes as they are handed out, with their arguments.
--     node_in g n        node n of a flat model; none from the number of nodes up
--     node_value node    what a node that was handed out holds: its arguments as bytes
use Rattle.std.specs.Prelude.{ℕ, ◌*◌, List, take, drop, Some, None, Option, slice_index, slice_index_or}
use Rattle.std.specs.List.{slice_get}
use Rattle.std.specs.Borrow.{Bor}
use Rattle.model_file.specs.declared.layout.Layout.{Layout}
use Rattle.model_file.specs.Fields.{number_of, arity_of}
use Rattle.model_file.specs.Layouts.{argument_at}
use Rattle.model_rules.specs.Shapes.{Shape}
use Rattle.model_rules.specs.declared.shape.Shape as declared
use Rattle.model_rules.specs.declared.shape.Shape.TheVariants as shape
use Rattle.model.specs.declared.node.Process.{Process}
use Rattle.words.specs.Words.{bytes_of}
use Rattle.model.specs.Flat.{Flat}

pub data NodeValue : Type 0 where
  call : (process : ℕ) (arguments : List ℕ) → NodeValue
  condition : (expression child : ℕ) → NodeValue
  choice : (left right : ℕ) → NodeValue
  sum : (variable child : ℕ) → NodeValue
  action : (act : ℕ) (arguments : List ℕ) (variable weight child : ℕ) → NodeValue
  delay : (rate child : ℕ) → NodeValue

abbrev pub node_value : declared.Shape (Bor (List ℕ)) → NodeValue
node_value (shape.Call p args) = call p args.now
node_value (shape.Condition x c) = condition x c
node_value (shape.Choice x y) = choice x y
node_value (shape.Sum v c) = sum v c
node_value (shape.Action a args v w c) = action a args.now v w c
node_value (shape.Delay r c) = delay r c

abbrev pub no_process : Process
no_process = record { first = 0; number = 0; body = 0 }

module _ (g : Flat) where
  -- how many arguments a call of process p has, and action a
  abbrev pub call_arity : ℕ → ℕ
  call_arity p = (slice_index_or g.processes p no_process).number

  abbrev pub action_arity : ℕ → ℕ
  action_arity a = slice_index g.arities a

  -- the expressions of k arguments from argument f on
  abbrev pub arguments_from : ℕ → ℕ → List ℕ
  arguments_from f k = take k (drop f g.arguments)

  abbrev pub value_in : Option Shape → Option NodeValue
  value_in None = None
  value_in (Some (shape.Call p f)) = Some (call p (bytes_of (arguments_from f (call_arity p))))
  value_in (Some (shape.Condition x c)) = Some (condition x c)
  value_in (Some (shape.Choice x y)) = Some (choice x y)
  value_in (Some (shape.Sum v c)) = Some (sum v c)
  value_in (Some (shape.Action a f v w c)) = Some (action a (bytes_of (arguments_from f (action_arity a))) v w c)
  value_in (Some (shape.Delay r c)) = Some (delay r c)

  abbrev pub node_in : ℕ → Option NodeValue
  node_in n = value_in (slice_get g.nodes n)

module _ (bs : List ℕ) (l : Layout) where
  -- the bytes of k arguments from argument f on
  abbrev pub argument_bytes : ℕ → ℕ → List ℕ
  argument_bytes f k = take (2 * k) (drop (argument_at l f) bs)

  abbrev pub value_at : Option Shape → Option NodeValue
  value_at None = None
  value_at (Some (shape.Call p f)) = Some (call p (argument_bytes f (number_of bs l p)))
  value_at (Some (shape.Condition x c)) = Some (condition x c)
  value_at (Some (shape.Choice x y)) = Some (choice x y)
  value_at (Some (shape.Sum v c)) = Some (sum v c)
  value_at (Some (shape.Action a f v w c)) = Some (action a (argument_bytes f (arity_of bs l a)) v w c)
  value_at (Some (shape.Delay r c)) = Some (delay r c)
