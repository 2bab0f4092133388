use Rattle.std.proofs.Common.{◌≡◌, take}
use Rattle.std.specs.List.{flat_map}
use Rattle.linear.specs.Layout.{summand_words}
use Rattle.linear_write.specs.Written.{written, after}
use Rattle.linear_write.proofs.writer.Writer.put_section.Given as goal

abbrev pub invariant-loop-summand : goal.invariant-loop-summand
invariant-loop-summand g l =
    (written l.self ≡ after (written l.initial.self) (flat_map (summand_words g.D.Doing.words) (take l.summand-index l.summands)))
    × (l.section.count ≡ l.summand-index)
    × (l.section.at ≡ l.initial.section.at)
