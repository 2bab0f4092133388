use Rattle.std.proofs.Common.{◌≡◌, ltb, sym, ap, ◌∙◌, arith}
use Rattle.model_file.specs.Fields.{node_count}
use Rattle.model_file.specs.Layouts.{layout_of}
use Rattle.model_rules.specs.Tallies.{one, total}
use Rattle.model.specs.Flat.{flat, node_of}
use Rattle.model.specs.Nodes.{node_in}
use Rattle.model.proofs.Numbered.{numbered_length}
use Rattle.source.specs.Counters.{leads_to}
use Rattle.source.specs.Sets.{has}
use Rattle.source.proofs.Marks.{marks_on, marks_end, marks_start}
use Rattle.source.proofs.Rested.{children_all}
use Rattle.source.proofs.places.moved_nodes.Goals as goal

pub loop-node-init : goal.loop-node-init
loop-node-init c =
    let bs = c.args.model.now.bytes.now in
    λ n l. marks_start (λ j. leads_to (node_in (flat bs) j) n) c.node_count-node-end.result (has c.empty-moved.result n) (c.empty-moved.ensures.answer n)

pub loop-node-preserved : goal.loop-node-preserved
loop-node-preserved c =
    let bs = c.args.model.now.bytes.now in
    λ n l. marks_on (λ j. leads_to (node_in (flat bs) j) n) c.node_count-node-end.result c.loop-node.node _ _ _ (omega arith) (c.loop-node.invariant n l) (c.add_child.ensures.leaves n l)

pub returns : goal.returns
returns c =
    let bs = c.args.model.now.bytes.now in
    let k : c.node_count-node-end.result ≡ node_count bs (layout_of bs) = c.node_count-node-end.ensures.answer ∙ sym (numbered_length (node_of bs (layout_of bs)) (node_count bs (layout_of bs))) in
    record { answer = λ n l. marks_end (λ j. leads_to (node_in (flat bs) j) n) c.node_count-node-end.result c.loop-node.node _ _ (omega arith) (c.loop-node.invariant n l) ∙ ap (λ m. ltb 0 (total (λ j. one (leads_to (node_in (flat bs) j) n)) m 0)) k ∙ ap (ltb 0) (children_all bs c.args.model.now.lawful n) }
