use Rattle.std.proofs.Common.{◌≡◌}
use Rattle.ways.specs.Stacks.{remaining, work_left}
use Rattle.ways.proofs.cursor.Cursor.next.Given as goal

abbrev pub invariant-loop-self : goal.invariant-loop-self
invariant-loop-self g l =
    remaining (g.L.Language.meaning l.language) (g.N.Nodes.sizes l.nodes) (g.N.Nodes.tree l.nodes) l.self.frames.items
    ≡ remaining (g.L.Language.meaning l.language) (g.N.Nodes.sizes l.nodes) (g.N.Nodes.tree l.nodes) l.initial.self.frames.items

abbrev pub decreases-loop-self : goal.decreases-loop-self
decreases-loop-self g l = work_left (g.N.Nodes.sizes l.nodes) (g.N.Nodes.tree l.nodes) l.self.frames.items
