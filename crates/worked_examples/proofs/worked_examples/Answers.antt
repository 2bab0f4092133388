use Rattle.std.proofs.Common.{refl}
use Rattle.model_file.specs.Layouts.{processes_at, start_at, actions_at, nodes_at, arguments_at}
use Rattle.fit.specs.Scopes.{any_below}
use Rattle.worked_examples.proofs.worked_examples.Goals as goal

pub returns : goal.returns
unfolding processes_at start_at actions_at nodes_at arguments_at any_below
returns c = record {
  examples = record {
    difference = refl;
    cut = refl;
    queue_accepted = refl;
    queue_language = refl;
    queue_fits = refl;
    queue_file = refl;
    queue_starts = refl;
    queue_waits = refl;
    queue_full = refl;
    two_delays = refl;
    two_summands = refl;
    no_move = refl;
    one_move = refl;
  };
}
