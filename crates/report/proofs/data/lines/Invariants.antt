use Rattle.std.proofs.Common.{◌≡◌, string_bytes}
use Rattle.report.specs.Data.{lines_below}
use Rattle.report.proofs.data.lines.Given as goal

abbrev pub invariant-loop-expression : goal.invariant-loop-expression
invariant-loop-expression g l = string_bytes l.text ≡ lines_below (g.L.Language.meaning l.language) l.expression
