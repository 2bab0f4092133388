use Rattle.model.specs.Flat.{flat}
use Rattle.source.proofs.Above.{Carrying}
use Rattle.source.proofs.free.carriers.Given as goal

abbrev pub invariant-loop-node : goal.invariant-loop-node
invariant-loop-node g l = Carrying (g.C.Carried.at_node l.sought) (flat l.model.bytes.now) l.found l.node
