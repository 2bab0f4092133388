-- What becomes of a model file.
--     judged bs   it is accepted, or its first fault: the sections in file order, then the rules over the whole file
use Rattle.std.specs.Prelude.{ℕ, List, Result}
use Rattle.model_file.specs.declared.fault.ModelFault.{ModelFault}
use Rattle.model_file.specs.Faults.{and_then}
use Rattle.model_file.specs.Sections.{sectioned}
use Rattle.model_rules.specs.Rules.{ruled}

abbrev pub judged : List ℕ → Result (Unit {0}) ModelFault
judged bs = and_then (sectioned bs) (λ _. ruled bs)
