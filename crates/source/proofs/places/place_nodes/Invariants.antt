use Rattle.std.proofs.Common.{◌≡◌, ℕ, ◌<◌, not, ◌&&◌}
use Rattle.model.specs.Flat.{flat}
use Rattle.model.specs.Nodes.{node_in}
use Rattle.source.specs.Counters.{calling}
use Rattle.source.specs.Sets.{has}
use Rattle.source.proofs.Flagged.{flagged}
use Rattle.source.proofs.places.place_nodes.Given as goal

abbrev pub invariant-loop-node : goal.invariant-loop-node
invariant-loop-node l = (n : ℕ) → n < 256 → has l.places n ≡ flagged (λ j. has l.moved j && not (calling (node_in (flat l.model.bytes.now) j))) (has l.initial.places n) l.node n
