use Rattle.std.proofs.Common.{◌≡◌, ℕ, ◌<◌}
use Rattle.model.specs.Flat.{flat}
use Rattle.source.specs.Sets.{has}
use Rattle.fit.specs.Scopes.{scope_at}
use Rattle.fit.proofs.scope.scope_nodes.Given as goal

abbrev pub invariant-loop-node : goal.invariant-loop-node
invariant-loop-node l =
    (k : ℕ) → k < 256 → has l.scope k ≡ scope_at (flat l.model.bytes.now) l.variable l.node k
