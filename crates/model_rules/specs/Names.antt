-- What a process and a node name is there.
use Rattle.std.specs.Prelude.{ℕ, Bool, false, ◌&&◌, List, Some, None, Option, nat_lt}
use Rattle.model_file.specs.declared.layout.Layout.{Layout}
use Rattle.model_file.specs.Fields.{variable_count, process_count, number_of, body_of, action_count, arity_of, node_count, argument_count}
use Rattle.model_file.specs.Sections.{run_fits}
use Rattle.model_rules.specs.Shapes.{Shape}
use Rattle.model_rules.specs.declared.shape.Shape.TheVariants.{Call, Condition, Choice, Sum, Action, Delay}

-- a child is a node, and higher than its parent
abbrev pub child_fits : ℕ → ℕ → ℕ → Bool
child_fits nodes n c = nat_lt n c && nat_lt c nodes

module _ (bs : List ℕ) (l : Layout) where
  abbrev pub body_named : ℕ → Bool
  body_named i = nat_lt (body_of bs l i) (node_count bs l)

  abbrev pub named : ℕ → Option Shape → Bool
  named n None = false
  named n (Some (Call p f)) = nat_lt p (process_count bs l) && run_fits (argument_count bs l) f (number_of bs l p)
  named n (Some (Condition x c)) = child_fits (node_count bs l) n c
  named n (Some (Choice x y)) = child_fits (node_count bs l) n x && child_fits (node_count bs l) n y
  named n (Some (Sum v c)) = nat_lt v (variable_count bs) && child_fits (node_count bs l) n c
  named n (Some (Action a f v w c)) = nat_lt a (action_count bs l) && (run_fits (argument_count bs l) f (arity_of bs l a) && (nat_lt v (variable_count bs) && child_fits (node_count bs l) n c))
  named n (Some (Delay r c)) = child_fits (node_count bs l) n c
