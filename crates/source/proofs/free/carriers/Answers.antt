use Rattle.std.proofs.Common.{◌≤◌, arith}
use Rattle.model.specs.Flat.{flat}
use Rattle.source.proofs.Above.{begun, skipped, carried}
use Rattle.source.proofs.Flats.{few_nodes, all_rise, node_number}
use Rattle.source.proofs.free.carriers.Goals as goal

pub loop-node-init : goal.loop-node-init
loop-node-init g c =
    let bs = c.args.model.now.bytes.now in
    begun (g.C.Carried.at_node c.args.sought.now) (flat bs) (all_rise bs c.args.model.now.lawful) _ _ c.node_count-node.ensures.answer c.empty-found.ensures.answer

pub loop-node-preserved-then-carries : goal.loop-node-preserved-then-carries
loop-node-preserved-then-carries g c =
    let bs = c.args.model.now.bytes.now in
    let law = c.args.model.now.lawful in
    let few : c.loop-node.node ≤ 256 = omega (arith, c.loop-node.invariant.low, node_number bs law, few_nodes bs law) in
    carried (g.C.Carried.at_node c.args.sought.now) (flat bs) (all_rise bs law) _ _ _ c.loop-node-test.true few c.loop-node.invariant c.if-carries.ensures.answer c.insert.ensures.leaves

pub loop-node-preserved : goal.loop-node-preserved
loop-node-preserved g c =
    let bs = c.args.model.now.bytes.now in
    skipped (g.C.Carried.at_node c.args.sought.now) (flat bs) (all_rise bs c.args.model.now.lawful) _ _ c.loop-node-test.true c.loop-node.invariant c.if-carries.ensures.answer

pub returns-clause-within : goal.returns-clause-within
returns-clause-within g c = λ n l. c.loop-node.invariant.within n (omega (arith, c.loop-node-test.false)) l

pub returns-clause-beyond : goal.returns-clause-beyond
returns-clause-beyond g c = c.loop-node.invariant.beyond
