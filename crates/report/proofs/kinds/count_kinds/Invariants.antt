use Rattle.std.proofs.Common.{◌≡◌}
use Rattle.model.specs.Flat.{flat}
use Rattle.report.specs.Kinds.{kinds_below}
use Rattle.report.proofs.kinds.count_kinds.Given as goal

abbrev pub invariant-loop-n : goal.invariant-loop-n
invariant-loop-n l = l.kinds ≡ kinds_below (flat l.model.bytes.now) l.n
