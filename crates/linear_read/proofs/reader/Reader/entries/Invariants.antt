use Rattle.std.proofs.Common.{◌≡◌, length, take, Some}
use Rattle.linear.specs.Reading.{entries_from}
use Rattle.linear_read.proofs.reader.Reader.entries.Given as goal

abbrev pub invariant-loop-k : goal.invariant-loop-k
invariant-loop-k l =
    record {
      places : length l.items ≡ 16;
      entries : entries_from l.fn.self.bytes l.fn.self.at l.k ≡ Some (take l.k l.items);
    }
