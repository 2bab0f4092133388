use Rattle.std.proofs.Common.{set, ap, ◌∙◌, arith}
use Rattle.valuation.specs.Valuations.{listed}
use Rattle.valuation.proofs.Totals.{sum_on}
use Rattle.valuation.proofs.weights.total_weight.Goals as goal

pub loop-value-preserved : goal.loop-value-preserved
loop-value-preserved g c =
    let V = (g.L.Language.meaning c.args.language.now).value c.args.weight in
    let d = c.loop-value.value in
    let is = c.value.ensures.answer ∙ ap V (c.values.ensures.answer ∙ c.with-set.ensures.answer) in (
      omega (arith, c.loop-value.invariant.0, c.value.type_inv, c.from-sum.ensures),
      sum_on (λ k. V (set (listed c.args.valuation.now) c.args.variable k)) d c.loop-value.sum c.from-sum.result c.loop-value.invariant.1 (c.from-sum.ensures ∙ is),
    )
