use Rattle.std.proofs.Common.{◌≡◌, ◌-◌, length}
use Rattle.language.specs.Files.{record_at, rows, rows_from}
use Rattle.language.proofs.record.records.Given as goal

abbrev pub invariant-loop-k : goal.invariant-loop-k
invariant-loop-k g l =
    let get = record_at g.T.FileRecord.decoded l.bytes in
    record {
      length : length l.records.items ≡ l.k;
      rest : rows_from get (l.count - l.k) l.k l.records.items ≡ rows get l.count;
    }
