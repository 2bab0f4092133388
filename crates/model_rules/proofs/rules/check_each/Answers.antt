use Rattle.std.proofs.Common.{true, false, Err, sym, ap, ◌∙◌}
use Rattle.model_rules.proofs.Firsts.{first_more, first_found}
use Rattle.model_rules.proofs.rules.check_each.Goals as goal

pub returns-then-not-holds : goal.returns-then-not-holds
returns-then-not-holds g c = record {
  answer = λ h f holds fault.
      let low = c.loop-i-test.true in
      let breaks = holds c.loop-i.i false low c.if-not-holds.ensures in
      let gives = fault c.loop-i.i c.fault.result low c.fault.ensures in
      ap Err gives ∙ sym (c.loop-i.invariant h f holds fault ∙ first_found h f c.args.count c.loop-i.i low (sym breaks));
}

pub loop-i-preserved : goal.loop-i-preserved
loop-i-preserved g c = λ h f holds fault.
    let low = c.loop-i-test.true in
    let keeps = holds c.loop-i.i true low c.if-not-holds.ensures in
    c.loop-i.invariant h f holds fault ∙ first_more h f c.args.count c.loop-i.i low (sym keeps)
