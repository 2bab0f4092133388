use Rattle.source.specs.Sets.{has}
use Rattle.source.proofs.Numbers.{Numbered}
use Rattle.source.proofs.numbering.counters.Given as goal

abbrev pub invariant-loop-node : goal.invariant-loop-node
invariant-loop-node l = Numbered (λ n. has l.places n) l.counter-items l.node l.next
