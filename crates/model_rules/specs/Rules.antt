-- The first rule over the whole file that it breaks.
--     first_fault holds fault k i   the fault of the first of k records from record i on at which `holds` fails
--     ruled bs                      no rule is broken, or the first fault: by rule, then by record
use Rattle.std.specs.Prelude.{ℕ, zero, suc, ◌+◌, Bool, cond, List, Ok, Err, Result}
use Rattle.model_file.specs.declared.fault.ModelFault.{ModelFault}
use Rattle.model_file.specs.declared.fault.ModelFault.TheVariants.{Unnamed, NotOnce, CallElsewhere, WaysDown}
use Rattle.model_file.specs.declared.layout.Layout.{Layout}
use Rattle.model_file.specs.Faults.{and_then}
use Rattle.model_file.specs.Fields.{variable_count, process_count, node_count}
use Rattle.model_file.specs.Layouts.{layout_of}
use Rattle.model_rules.specs.Names.{body_named, named}
use Rattle.model_rules.specs.Shapes.{shape_at}
use Rattle.model_rules.specs.Tallies.{node_once, variable_once, call_placed}
use Rattle.model_rules.specs.Ways.{ways_fit}

-- a rule: whether record i keeps it, and its fault if not
module _ (holds : ℕ → Bool) (fault : ℕ → ModelFault) where
  abbrev pub rule_fault : ℕ → Result (Unit {0}) ModelFault
  rule_fault i = cond (holds i) (Ok tt) (Err (fault i))

  abbrev pub first_fault : ℕ → ℕ → Result (Unit {0}) ModelFault
  first_fault zero i = Ok tt
  first_fault (suc k) i = and_then (rule_fault i) (λ _. first_fault k (i + 1))

module _ (bs : List ℕ) (l : Layout) where
  -- what node n names is there
  abbrev pub node_named : ℕ → Bool
  node_named n = named bs l n (shape_at bs l n)

  abbrev pub rules_fault : Result (Unit {0}) ModelFault
  rules_fault =
      and_then (first_fault (body_named bs l) (Unnamed 2) (process_count bs l) 0) (λ _.
      and_then (first_fault node_named (Unnamed 5) (node_count bs l) 0) (λ _.
      and_then (first_fault (node_once bs l) (NotOnce 5) (node_count bs l) 0) (λ _.
      and_then (first_fault (variable_once bs l) (NotOnce 1) (variable_count bs) 0) (λ _.
      and_then (first_fault (call_placed bs l) CallElsewhere (node_count bs l) 0) (λ _.
      first_fault (ways_fit bs l) WaysDown (node_count bs l) 0)))))

abbrev pub ruled : List ℕ → Result (Unit {0}) ModelFault
ruled bs = rules_fault bs (layout_of bs)
