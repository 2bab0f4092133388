use Rattle.std.proofs.Common.{◌≡◌, take}
use Rattle.linear_write.specs.Written.{written, after}
use Rattle.linear_write.proofs.writer.Writer.put_words.Given as goal

abbrev pub invariant-loop-word : goal.invariant-loop-word
invariant-loop-word l = written l.self ≡ after (written l.initial.self) (take l.word-index l.words)
