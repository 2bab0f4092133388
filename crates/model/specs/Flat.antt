-- A model as its file has it: a list for each section. Children, arguments and parameters are numbers.
--     flat bs          the model whose file has these bytes
--     footprint_of g   a number of bytes that no linear file of g exceeds
use Rattle.std.specs.Prelude.{ℕ, ◌+◌, ◌*◌, List, [], ◌∷◌, map, length, Some, None, Option}
use Rattle.std.specs.List.{range_with_len}
use Rattle.model_file.specs.declared.layout.Layout.{Layout}
use Rattle.model_file.specs.Fields.{variable_count, size_of, process_count, first_of, number_of, body_of, start_of, value_of, action_count, arity_of, node_count, argument_count, argument_of}
use Rattle.model_file.specs.Layouts.{layout_of}
use Rattle.model_rules.specs.Shapes.{Shape, shape_at}
use Rattle.model_rules.specs.declared.shape.Shape.TheVariants.{Call, Delay}
use Rattle.model.specs.declared.node.Process.{Process}

pub record Flat : Type 0 where
  pub sizes : List ℕ
  pub processes : List Process
  pub start : ℕ
  pub values : List ℕ
  pub arities : List ℕ
  pub nodes : List Shape
  pub arguments : List ℕ

-- f 0, f 1, .. , n in all
abbrev pub numbered : {X : Type 0} → ℕ → (ℕ → X) → List X
numbered n f = map f (range_with_len 0 n)

-- an accepted file has a node in each record; elsewhere the word stands for some node
abbrev pub or_delay : Option Shape → Shape
or_delay (Some s) = s
or_delay None = Delay 0 0

module _ (bs : List ℕ) (l : Layout) where
  abbrev pub process_of : ℕ → Process
  process_of i = record { first = first_of bs l i; number = number_of bs l i; body = body_of bs l i }

  abbrev pub node_of : ℕ → Shape
  node_of n = or_delay (shape_at bs l n)

  abbrev pub flat_at : Flat
  flat_at = record {
    sizes = numbered (variable_count bs) (size_of bs);
    processes = numbered (process_count bs l) process_of;
    start = start_of bs l;
    values = numbered (number_of bs l (start_of bs l)) (value_of bs l);
    arities = numbered (action_count bs l) (arity_of bs l);
    nodes = numbered (node_count bs l) node_of;
    arguments = numbered (argument_count bs l) (argument_of bs l);
  }

abbrev pub flat : List ℕ → Flat
flat bs = flat_at bs (layout_of bs)

abbrev pub footprint_of : Flat → ℕ
footprint_of g = 5 + 2 * (5 + 2 * length g.sizes + length g.nodes * (28 + 2 * length g.sizes))

-- one process without parameters: a delay, then the process again
abbrev pub smallest_flat : Flat
smallest_flat = record {
  sizes = [];
  processes = record { first = 0; number = 0; body = 0 } ∷ [];
  start = 0;
  values = [];
  arities = 0 ∷ [];
  nodes = Delay 0 1 ∷ (Call 0 0 ∷ []);
  arguments = [];
}
