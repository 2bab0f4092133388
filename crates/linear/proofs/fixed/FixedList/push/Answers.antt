use Rattle.std.proofs.Common.{arith}
use Rattle.linear.proofs.Filling.{push_filled}
use Rattle.linear.proofs.fixed.FixedList.push.Goals as goal

pub invariant_of-self : goal.invariant_of-self
invariant_of-self g c =
    let inside = c.self.inside in
    (omega arith, push_filled g.T.Item.blank c.args.item g.row.MOST inside.count inside.places (omega arith) c.self.invariant.1)
