use Rattle.std.proofs.Common.{◌≡◌, ◌+◌, ◌-◌, ◌*◌, ◌≤◌}
use Rattle.model_rules.specs.Calls.{Computes}
use Rattle.model_rules.specs.Tallies.{total}
use Rattle.model_rules.proofs.tally.total.Given as goal

abbrev pub invariant-loop-i : goal.invariant-loop-i
invariant-loop-i g l =
    ((f : _) → Computes l.count (goal.F-post g l.share) f → total f l.count 0 ≡ l.sum + total f (l.count - l.i) l.i)
    × (l.sum ≤ 65536 * l.i)
