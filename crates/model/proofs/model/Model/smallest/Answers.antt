use Rattle.std.proofs.Common.{refl}
use Rattle.model_file.specs.Layouts.{processes_at, start_at, actions_at, nodes_at, arguments_at}
use Rattle.model.proofs.model.Model.smallest.Goals as goal

pub invariant_of-result : goal.invariant_of-result
unfolding processes_at start_at actions_at nodes_at arguments_at
invariant_of-result c = record { lawful = refl; located = c.locate.ensures.answer }

pub returns : goal.returns
unfolding processes_at start_at actions_at nodes_at arguments_at
returns c = record { answer = refl }
