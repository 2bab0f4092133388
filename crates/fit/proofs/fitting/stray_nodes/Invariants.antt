use Rattle.std.proofs.Common.{◌≡◌, ℕ, ◌<◌}
use Rattle.model.specs.Flat.{flat}
use Rattle.source.specs.Sets.{has}
use Rattle.fit.specs.Scopes.{any_below}
use Rattle.fit.specs.Fitting.{strays_at}
use Rattle.fit.proofs.fitting.stray_nodes.Given as goal

abbrev pub invariant-loop-variable : goal.invariant-loop-variable
invariant-loop-variable g l =
    (k : ℕ) → k < 256 → has l.strays k ≡ any_below (strays_at (g.L.Language.meaning l.language) (flat l.model.bytes.now) k) l.variable
