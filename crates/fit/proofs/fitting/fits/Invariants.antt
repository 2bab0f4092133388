use Rattle.std.proofs.Common.{◌≡◌, ◌-◌}
use Rattle.model.specs.Flat.{flat}
use Rattle.fit.specs.Fitting.{fault_from, fit_of}
use Rattle.fit.proofs.fitting.fits.Given as goal

abbrev pub invariant-loop-node : goal.invariant-loop-node
invariant-loop-node g l = fault_from (g.L.Language.meaning l.language) (flat l.model.bytes.now) (l.node-end - l.node) l.node ≡ fit_of (g.L.Language.meaning l.language) (flat l.model.bytes.now)
