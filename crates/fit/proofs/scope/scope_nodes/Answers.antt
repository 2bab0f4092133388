use Rattle.std.proofs.Common.{◌≡◌, ◌<◌, length, sym, ap, ◌∙◌, ap₂, add-one, arith}
use Rattle.model.specs.Flat.{flat}
use Rattle.model.specs.Nodes.{node_in}
use Rattle.source.proofs.Flats.{few_nodes, node_number}
use Rattle.fit.specs.Scopes.{handed, scope_at}
use Rattle.fit.proofs.scope.scope_nodes.Goals as goal

pub loop-node-preserved : goal.loop-node-preserved
loop-node-preserved c =
    let bs = c.args.model.now.bytes.now in
    let law = c.args.model.now.lawful in
    let g = flat bs in
    let x = c.args.variable in
    let n = c.loop-node.node in
    let low : n < 256 = omega (arith, c.node_count-node-end.ensures.answer, node_number bs law, few_nodes bs law) in
    λ k l. c.hand_down.ensures.leaves k l
    ∙ ap₂ (λ a b. handed (node_in g n) x a k b) (c.contains-here.ensures.answer ∙ c.loop-node.invariant n low) (c.loop-node.invariant k l)
    ∙ sym (ap (λ m. scope_at g x m k) (add-one n))

pub returns : goal.returns
returns c =
    let g = flat c.args.model.now.bytes.now in
    let e : c.loop-node.node ≡ length g.nodes = omega (arith, c.node_count-node-end.ensures.answer) in
    record { answer = λ k l. c.loop-node.invariant k l ∙ ap (λ m. scope_at g c.args.variable m k) e }
