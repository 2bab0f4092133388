use Rattle.std.proofs.Common.{◌≡◌, ◌*◌, ◌≤◌, min, drop}
use Rattle.linear.specs.Laws.{product}
use Rattle.linear_read.proofs.rules.small_sums.Given as goal

abbrev pub invariant-loop-variable : goal.invariant-loop-variable
invariant-loop-variable l = (l.total ≤ 4294967295) × (min (product l.sizes l.sums) 4294967295 ≡ min (l.total * product l.sizes (drop l.variable-index l.sums)) 4294967295)
