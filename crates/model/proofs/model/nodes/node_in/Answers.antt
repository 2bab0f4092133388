use Rattle.std.proofs.Common.{◌≡◌, Some, None, ap, ◌∙◌, arith}
use Rattle.std.specs.Option.{option_map}
use Rattle.model_file.specs.Fields.{node_count}
use Rattle.model_file.specs.Layouts.{layout_of}
use Rattle.model_rules.specs.Shapes.{shape_at}
use Rattle.model.specs.Nodes.{node_value}
use Rattle.model.proofs.Handed.{node_shaped, node_past}
use Rattle.model.proofs.model.nodes.node_in.Goals as goal

pub returns-then-node-node_count : goal.returns-then-node-node_count
returns-then-node-node_count c =
    let bs = c.args.bytes.now in
    let count : c.node_count.result ≡ node_count bs (layout_of bs) = cc in
    record { answer = node_past bs (λ i. omega (arith, c.type_inv.bytes i)) c.requires.lawful c.args.node (rw count at c.if-node-node_count.true) }

pub returns-in_err-shape : goal.returns-in_err-shape
returns-in_err-shape c =
    let bs = c.args.bytes.now in
    let count : c.node_count.result ≡ node_count bs (layout_of bs) = cc in
    let is : None ≡ shape_at bs (layout_of bs) c.args.node = cc (c.in_err-shape.was) in
    record { answer = ap (option_map node_value) c.from_residual.ensures ∙ node_shaped bs (λ i. omega (arith, c.type_inv.bytes i)) c.requires.lawful c.args.node None (rw count at c.if-node-node_count.false) is }

pub returns : goal.returns
returns c =
    let bs = c.args.bytes.now in
    let count : c.node_count.result ≡ node_count bs (layout_of bs) = cc in
    let is : Some c.in_ok-shape.shape ≡ shape_at bs (layout_of bs) c.args.node = cc (c.in_ok-shape.was) in
    let there = node_shaped bs (λ i. omega (arith, c.type_inv.bytes i)) c.requires.lawful c.args.node (Some c.in_ok-shape.shape) (rw count at c.if-node-node_count.false) is in
    record { answer = cc }
