use Rattle.source.proofs.Below.{falses}
use Rattle.source.proofs.set.NodeSet.empty.Goals as goal

pub returns : goal.returns
returns c = record { answer = falses 256 }
