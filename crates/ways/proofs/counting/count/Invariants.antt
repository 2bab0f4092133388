use Rattle.std.proofs.Common.{◌≡◌, ◌+◌, ◌≤◌, length, filter}
use Rattle.ways.specs.Stacks.{remaining}
use Rattle.ways.proofs.counting.count.Given as goal

abbrev pub invariant-loop-found : goal.invariant-loop-found
invariant-loop-found g l =
    let L = g.L.Language.meaning l.language in
    let left = remaining L (g.N.Nodes.sizes l.nodes) (g.N.Nodes.tree l.nodes) l.cursor.frames.items in
    let all = remaining L (g.N.Nodes.sizes l.nodes) (g.N.Nodes.tree l.nodes) l.initial.cursor.frames.items in
    (l.number + length (filter (g.N.Nodes.lives l.nodes l.asked L) left) ≡ length (filter (g.N.Nodes.lives l.nodes l.asked L) all))
    × (l.number + length left ≤ length all)

abbrev pub decreases-loop-found : goal.decreases-loop-found
decreases-loop-found g l = length (remaining (g.L.Language.meaning l.language) (g.N.Nodes.sizes l.nodes) (g.N.Nodes.tree l.nodes) l.cursor.frames.items)
