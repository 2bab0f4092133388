use Rattle.std.proofs.Common.{◌≡◌, ℕ, Bool, ◌||◌, length, sym, ap, ◌∙◌, arith}
use Rattle.std.specs.List.{slice_get}
use Rattle.model.specs.Flat.{flat}
use Rattle.fit.specs.Scopes.{any_below, begins}
use Rattle.fit.proofs.Any.{below_zero, below_more}
use Rattle.fit.proofs.scope.body_nodes.Goals as goal

pub loop-process-init : goal.loop-process-init
loop-process-init c = λ k l. c.empty-bodies.ensures.answer k ∙ sym (below_zero _)

pub loop-process-preserved : goal.loop-process-preserved
loop-process-preserved c =
    let g = flat c.args.model.now.bytes.now in
    let f : ℕ → ℕ → Bool = λ k p. begins (slice_get g.processes p) c.args.variable k in
    let i = c.loop-process.process in
    λ k l. c.add_body.ensures.leaves k l ∙ ap (λ b. f k i || b) (c.loop-process.invariant k l) ∙ sym (below_more (f k) i)

pub returns : goal.returns
returns c =
    let g = flat c.args.model.now.bytes.now in
    let e : c.loop-process.process ≡ length g.processes = omega (arith, c.process_count-process-end.ensures.answer) in
    record { answer = λ k l. c.loop-process.invariant k l ∙ ap (any_below (λ p. begins (slice_get g.processes p) c.args.variable k)) e }
