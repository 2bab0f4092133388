use Rattle.std.proofs.Common.{ℕ, take, ap, ◌∙◌, arith}
use Rattle.std.proofs.lemmas.List.{length-take}
use Rattle.valuation.specs.Valuations.{listed}
use Rattle.sides.proofs.Padded.{put_next, label_is}
use Rattle.sides.proofs.labels.label.Goals as goal

pub loop-i-preserved : goal.loop-i-preserved
loop-i-preserved g c =
    let V = λ (e : ℕ). (g.L.Language.meaning c.args.language.now).value e (listed c.args.valuation.now) in
    let front = take c.min-count.result c.args.arguments.now in
    let k = length-take c.min-count.result c.args.arguments.now in
    put_next V front c.loop-i.i c.value.result c.loop-i.values (omega arith) (omega (arith, k, c.min-count.ensures)) c.loop-i.invariant (c.value.ensures.answer ∙ ap ((g.L.Language.meaning c.args.language.now).value _) c.values.ensures.answer)

pub returns : goal.returns
returns g c =
    let V = λ (e : ℕ). (g.L.Language.meaning c.args.language.now).value e (listed c.args.valuation.now) in
    record { answer = label_is V c.args.action c.args.arguments.now c.min-count.result c.loop-i.i c.loop-i.values c.min-count.ensures (omega arith) c.loop-i.invariant }
