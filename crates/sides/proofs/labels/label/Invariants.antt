use Rattle.std.proofs.Common.{◌≡◌, map, take}
use Rattle.system.specs.Questions.{padded}
use Rattle.valuation.specs.Valuations.{listed}
use Rattle.sides.proofs.labels.label.Given as goal

abbrev pub invariant-loop-i : goal.invariant-loop-i
invariant-loop-i g l = l.values ≡ padded (map (λ e. (g.L.Language.meaning l.language).value e (listed l.valuation)) (take l.i l.argument-items))
