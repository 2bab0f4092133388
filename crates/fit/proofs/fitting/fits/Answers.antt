use Rattle.std.proofs.Common.{◌≡◌, ◌-◌, ◌<◌, length, ap, ◌∙◌, arith}
use Rattle.model.specs.Flat.{flat}
use Rattle.source.proofs.Flats.{few_nodes, node_number}
use Rattle.fit.specs.Fitting.{beyond_at, fault_from}
use Rattle.fit.proofs.Fitted.{fault_beyond, fault_stray, fault_later, fault_none, fitted}
use Rattle.fit.proofs.fitting.fits.Goals as goal

pub loop-node-init : goal.loop-node-init
loop-node-init g c =
    let L = g.L.Language.meaning c.args.language.now in
    let G = flat c.args.model.now.bytes.now in
    let e : c.node_count-node-end.result - 0 ≡ length G.nodes = omega (arith, c.node_count-node-end.ensures.answer) in
    ap (λ m. fault_from L G m 0) e

pub loop-node-preserved : goal.loop-node-preserved
loop-node-preserved g c =
    let L = g.L.Language.meaning c.args.language.now in
    let bs = c.args.model.now.bytes.now in
    let law = c.args.model.now.lawful in
    let n = c.node_count-node-end.result in
    let k = c.loop-node.node in
    let low : k < 256 = omega (arith, c.node_count-node-end.ensures.answer, node_number bs law, few_nodes bs law) in
    fault_later L (flat bs) n k _ c.loop-node-test.true
    (c.if-beyond_at.ensures.answer ∙ ap (λ m. beyond_at m (flat bs) k) c.count-expressions.ensures.answer)
    (c.if-contains.ensures.answer ∙ c.stray_nodes-strays.ensures.answer k low) c.loop-node.invariant

pub returns-then-beyond_at : goal.returns-then-beyond_at
returns-then-beyond_at g c =
    let L = g.L.Language.meaning c.args.language.now in
    let bs = c.args.model.now.bytes.now in
    let n = c.node_count-node-end.result in
    let k = c.loop-node.node in
    let e = fault_beyond L (flat bs) n k _ c.loop-node-test.true (c.if-beyond_at.ensures.answer ∙ ap (λ m. beyond_at m (flat bs) k) c.count-expressions.ensures.answer) c.loop-node.invariant in
    let q = fitted L (g.met.L.Language.lawful c.args.language.now) bs c.args.model.now.lawful _ e in
    record { answer = q.answer; rules = q.rules; fitting = q.fitting }

pub returns-then-contains : goal.returns-then-contains
returns-then-contains g c =
    let L = g.L.Language.meaning c.args.language.now in
    let bs = c.args.model.now.bytes.now in
    let law = c.args.model.now.lawful in
    let n = c.node_count-node-end.result in
    let k = c.loop-node.node in
    let low : k < 256 = omega (arith, c.node_count-node-end.ensures.answer, node_number bs law, few_nodes bs law) in
    let e = fault_stray L (flat bs) n k _ c.loop-node-test.true
    (c.if-beyond_at.ensures.answer ∙ ap (λ m. beyond_at m (flat bs) k) c.count-expressions.ensures.answer)
    (c.if-contains.ensures.answer ∙ c.stray_nodes-strays.ensures.answer k low) c.loop-node.invariant in
    let q = fitted L (g.met.L.Language.lawful c.args.language.now) bs law _ e in
    record { answer = q.answer; rules = q.rules; fitting = q.fitting }

pub returns : goal.returns
returns g c =
    let L = g.L.Language.meaning c.args.language.now in
    let bs = c.args.model.now.bytes.now in
    let e = fault_none L (flat bs) c.node_count-node-end.result c.loop-node.node _ c.loop-node-test.false c.loop-node.invariant in
    let q = fitted L (g.met.L.Language.lawful c.args.language.now) bs c.args.model.now.lawful _ e in
    record { answer = q.answer; rules = q.rules; fitting = q.fitting }
