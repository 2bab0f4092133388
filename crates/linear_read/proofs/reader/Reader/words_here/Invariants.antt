use Rattle.std.proofs.Common.{◌≡◌, length, take}
use Rattle.linear.specs.Reading.{words_from}
use Rattle.linear_read.proofs.reader.Reader.words_here.Given as goal

abbrev pub invariant-loop-k : goal.invariant-loop-k
invariant-loop-k l =
    record {
      places : length l.items ≡ 16;
      words : take l.k l.items ≡ words_from l.fn.self.bytes l.fn.self.at l.k;
    }
