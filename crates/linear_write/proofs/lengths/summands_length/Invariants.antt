use Rattle.std.proofs.Common.{◌≡◌, ◌*◌, ◌≤◌, length, take}
use Rattle.std.specs.List.{flat_map}
use Rattle.linear.specs.Layout.{summand_words}
use Rattle.linear_write.proofs.lengths.summands_length.Given as goal

abbrev pub invariant-loop-summand : goal.invariant-loop-summand
invariant-loop-summand g l =
    (l.total ≡ 2 * length (flat_map (summand_words g.D.Doing.words) (take l.summand-index l.summands)))
    × (l.total ≤ 200 * l.summand-index)
