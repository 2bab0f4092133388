use Rattle.std.proofs.Common.{◌≡◌, ◌*◌, ◌≤◌, set, sum_by}
use Rattle.std.specs.List.{range_with_len}
use Rattle.valuation.specs.Valuations.{listed}
use Rattle.valuation.proofs.weights.total_weight.Given as goal

abbrev pub invariant-loop-value : goal.invariant-loop-value
invariant-loop-value g l =
    (l.sum ≤ 65535 * l.value)
    × (l.sum ≡ sum_by (λ d. (g.L.Language.meaning l.language).value l.weight (set (listed l.valuation) l.variable d)) (range_with_len 0 l.value))
