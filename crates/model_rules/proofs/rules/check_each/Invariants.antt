use Rattle.std.proofs.Common.{◌≡◌, ◌-◌}
use Rattle.model_rules.specs.Calls.{Computes}
use Rattle.model_rules.specs.Rules.{first_fault}
use Rattle.model_rules.proofs.rules.check_each.Given as goal

abbrev pub invariant-loop-i : goal.invariant-loop-i
invariant-loop-i g l =
    (h : _) (f : _) → Computes l.count (goal.H-post g l.holds) h → Computes l.count (goal.F-post g l.fault) f
    → first_fault h f l.count 0 ≡ first_fault h f (l.count - l.i) l.i
