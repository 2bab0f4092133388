use Rattle.std.proofs.Common.{◌≡◌, ◌+◌, length, filter}
use Rattle.std.specs.List.{slice_get}
use Rattle.ways.specs.Stacks.{remaining}
use Rattle.ways.proofs.seeking.seek.Given as goal

abbrev pub invariant-loop-found : goal.invariant-loop-found
invariant-loop-found g l =
    let L = g.L.Language.meaning l.language in
    let to_come = remaining L (g.N.Nodes.sizes l.nodes) (g.N.Nodes.tree l.nodes) l.cursor.frames.items in
    let all = remaining L (g.N.Nodes.sizes l.nodes) (g.N.Nodes.tree l.nodes) l.initial.cursor.frames.items in
    (slice_get (filter (g.N.Nodes.lives l.nodes l.asked L) to_come) l.left ≡ slice_get (filter (g.N.Nodes.lives l.nodes l.asked L) all) l.initial.left)
    × (l.left + length (filter (g.N.Nodes.lives l.nodes l.asked L) all) ≡ l.initial.left + length (filter (g.N.Nodes.lives l.nodes l.asked L) to_come))

abbrev pub decreases-loop-found : goal.decreases-loop-found
decreases-loop-found g l = length (remaining (g.L.Language.meaning l.language) (g.N.Nodes.sizes l.nodes) (g.N.Nodes.tree l.nodes) l.cursor.frames.items)
