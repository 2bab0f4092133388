use Rattle.std.proofs.Common.{◌≡◌, ◌++◌, string_bytes}
use Rattle.report.specs.Data.{names_below}
use Rattle.report.proofs.data.put_names.Given as goal

abbrev pub invariant-loop-variable : goal.invariant-loop-variable
invariant-loop-variable g l = string_bytes l.text ≡ string_bytes l.initial.text ++ names_below ((g.L.Language.meaning l.language).names l.expression) l.variable-counter
