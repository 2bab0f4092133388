use Rattle.std.proofs.Common.{ap, ◌∙◌}
use Rattle.std.proofs.Math.Seq.{take-set-lt}
use Rattle.std.specs.Prelude.{slice_set}
use Rattle.linear.proofs.Filling.{set_filled}
use Rattle.linear.proofs.fixed.FixedList.set.Goals as goal

pub invariant_of-self : goal.invariant_of-self
invariant_of-self g c =
    let inside = c.self.inside in
    (c.self.invariant.0, set_filled g.T.Item.blank c.args.item g.row.MOST inside.count c.args.index inside.places c.self.invariant.0 c.if-index-self.true c.self.invariant.1)

pub returns-then-index-self : goal.returns-then-index-self
returns-then-index-self g c =
    let inside = c.self.inside in
    record { leaves = take-set-lt inside.count inside.places c.args.index c.args.item c.if-index-self.true ∙ ap (λ xs. slice_set xs c.args.index c.args.item) c.self.view_is }
