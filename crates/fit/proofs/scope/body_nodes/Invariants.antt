use Rattle.std.proofs.Common.{◌≡◌, ℕ, ◌<◌}
use Rattle.std.specs.List.{slice_get}
use Rattle.model.specs.Flat.{flat}
use Rattle.source.specs.Sets.{has}
use Rattle.fit.specs.Scopes.{any_below, begins}
use Rattle.fit.proofs.scope.body_nodes.Given as goal

abbrev pub invariant-loop-process : goal.invariant-loop-process
invariant-loop-process l =
    (k : ℕ) → k < 256 → has l.bodies k ≡ any_below (λ p. begins (slice_get (flat l.model.bytes.now).processes p) l.variable k) l.process
