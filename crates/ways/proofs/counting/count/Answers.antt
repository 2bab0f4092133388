use Rattle.std.proofs.Common.{◌≤◌, length, ap, arith, rules}
use Rattle.valuation.specs.Valuations.{listed}
use Rattle.ways.proofs.Bounds.{leaves_few}
use Rattle.ways.proofs.Yielded.{counted}
use Rattle.ways.proofs.counting.count.Goals as goal

pub overflow_add-number : goal.overflow_add-number
overflow_add-number g c =
    let L = g.L.Language.meaning c.args.language.now in
    let sizes = g.N.Nodes.sizes c.args.nodes.now in
    let tree = g.N.Nodes.tree c.args.nodes.now in
    let low : c.loop-found.number ≤ 16777216 = omega (arith, c.loop-found.invariant.1, ap length (c.new-cursor.ensures.answer L sizes tree), leaves_few L sizes (tree c.args.node) (listed c.args.valuation), g.met.N.Nodes.few c.args.nodes.now c.args.node) in
    search rules

pub returns : goal.returns
returns g c =
    let L = g.L.Language.meaning c.args.language.now in
    let sizes = g.N.Nodes.sizes c.args.nodes.now in
    let tree = g.N.Nodes.tree c.args.nodes.now in
    let all = c.new-cursor.ensures.answer L sizes tree in
    let p = g.N.Nodes.lives c.args.nodes.now c.args.asked L in
    record {
      answer = counted p _ _ _ _ c.in_default.ensures all c.loop-found.invariant.0;
      small = omega (arith, c.loop-found.invariant.1, ap length all, leaves_few L sizes (tree c.args.node) (listed c.args.valuation), g.met.N.Nodes.few c.args.nodes.now c.args.node);
    }
