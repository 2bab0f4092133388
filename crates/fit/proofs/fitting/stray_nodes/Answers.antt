use Rattle.std.proofs.Common.{◌≡◌, ◌||◌, sym, ap, ◌∙◌, arith}
use Rattle.model.specs.Flat.{flat}
use Rattle.fit.specs.Fitting.{strays_at}
use Rattle.fit.specs.Scopes.{any_below}
use Rattle.fit.proofs.Any.{below_zero, below_more}
use Rattle.fit.proofs.fitting.stray_nodes.Goals as goal

pub loop-variable-init : goal.loop-variable-init
loop-variable-init g c = λ k l. c.empty-strays.ensures.answer k ∙ sym (below_zero _)

pub loop-variable-preserved : goal.loop-variable-preserved
loop-variable-preserved g c =
    let L = g.L.Language.meaning c.args.language.now in
    let G = flat c.args.model.now.bytes.now in
    let x = c.loop-variable.variable in
    λ k l. c.add_strays.ensures.leaves k l ∙ ap (λ b. strays_at L G k x || b) (c.loop-variable.invariant k l) ∙ sym (below_more (strays_at L G k) x)

pub returns : goal.returns
returns g c =
    let L = g.L.Language.meaning c.args.language.now in
    let G = flat c.args.model.now.bytes.now in
    let e : c.loop-variable.variable ≡ 16 = omega arith in
    record { answer = λ k l. c.loop-variable.invariant k l ∙ ap (any_below (strays_at L G k)) e }
