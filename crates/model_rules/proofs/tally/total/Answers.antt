use Rattle.std.proofs.Common.{arith}
use Rattle.model_rules.proofs.Firsts.{total_here}
use Rattle.model_rules.proofs.tally.total.Goals as goal

pub loop-i-preserved : goal.loop-i-preserved
loop-i-preserved g c = (
  λ f is.
      let e = total_here f c.args.count c.loop-i.i c.loop-i-test.true in
      let one = is c.loop-i.i c.share.result c.loop-i-test.true c.share.ensures in
      let all = c.loop-i.invariant.0 f is in
      omega arith,
  omega arith,
)
