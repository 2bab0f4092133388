use Rattle.behaviour.proofs.behaves.Goals as goal
use Rattle.behaviour.proofs.Keeping.{keeps}
use Rattle.behaviour.proofs.Alike.{counted_means}
use Rattle.behaviour.proofs.Accepted.{accepted_sound, accepted_tree}
use Rattle.behaviour.proofs.Summands.{by_nodes}
use Rattle.behaviour.proofs.Words.{behaves_over_sides}
use Rattle.behaviour.proofs.Answering.{equation_behaves}

pub returns : goal.returns
returns c = record { keeps = keeps; counted = counted_means; accepts = λ bs w. (accepted_sound bs w, accepted_tree bs w); nodes = by_nodes; behaves = behaves_over_sides; equation = equation_behaves }
