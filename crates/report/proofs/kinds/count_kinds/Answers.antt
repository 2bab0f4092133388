use Rattle.std.proofs.Common.{◌≤◌, arith}
use Rattle.std.specs.Option.{option_map}
use Rattle.model.specs.Flat.{flat}
use Rattle.model.specs.Nodes.{node_value}
use Rattle.report.specs.Kinds.{kinds_below, kind_total}
use Rattle.report.proofs.Counted.{total_below, kinds_more}
use Rattle.report.proofs.kinds.count_kinds.Goals as goal

pub add_kind-kinds-requires : goal.add_kind-kinds-requires
add_kind-kinds-requires c =
    let few = total_below (flat c.args.model.now.bytes.now) c.loop-n.n in
    let all : kind_total (kinds_below (flat c.args.model.now.bytes.now) c.loop-n.n) ≤ 65535 = omega arith in
    simp c.loop-n.invariant all

pub loop-n-preserved : goal.loop-n-preserved
loop-n-preserved c =
    kinds_more (flat c.args.model.now.bytes.now) c.loop-n.n c.loop-n.kinds c.add_kind-kinds.result (option_map node_value c.node.result) c.loop-n.invariant c.node.ensures.answer c.add_kind-kinds.ensures.answer
