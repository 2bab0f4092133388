use Rattle.std.proofs.Common.{◌≡◌, length}
use Rattle.table.specs.Files.{words_from}
use Rattle.table.proofs.values.values.Given as goal

abbrev pub invariant-loop-word : goal.invariant-loop-word
invariant-loop-word l =
    record {
      count : length l.values.items ≡ l.word-index;
      values : l.values.items ≡ words_from l.bytes l.at l.word-index;
    }
