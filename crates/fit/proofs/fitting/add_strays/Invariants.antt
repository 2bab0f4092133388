use Rattle.std.proofs.Common.{◌≡◌, ℕ, ◌<◌}
use Rattle.model.specs.Flat.{flat}
use Rattle.source.specs.Sets.{has}
use Rattle.fit.specs.Fitting.{strays_at}
use Rattle.source.proofs.Flagged.{flagged}
use Rattle.fit.proofs.fitting.add_strays.Given as goal

abbrev pub invariant-loop-node : goal.invariant-loop-node
invariant-loop-node g l =
    (k : ℕ) → k < 256
    → has l.strays k ≡ flagged (λ j. strays_at (g.L.Language.meaning l.language) (flat l.model.bytes.now) j l.variable) (has l.initial.strays k) l.node k
