use Rattle.std.proofs.Common.{◌≡◌, take}
use Rattle.std.specs.List.{flat_map}
use Rattle.linear.specs.Layout.{entry_words}
use Rattle.linear_write.specs.Written.{written, after}
use Rattle.linear_write.proofs.writer.Writer.put_entries.Given as goal

abbrev pub invariant-loop-entry : goal.invariant-loop-entry
invariant-loop-entry l = written l.self ≡ after (written l.initial.self) (flat_map entry_words (take l.entry-index l.entries))
