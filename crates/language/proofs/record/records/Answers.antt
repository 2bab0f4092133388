use Rattle.std.proofs.Common.{◌≡◌, sym, ap, ◌∙◌, arith}
use Rattle.std.proofs.lemmas.Result.{err_from_is_err_and}
use Rattle.language.specs.Files.{record_at, records_of, rows, then}
use Rattle.language.proofs.Rows.{rows_more, rows_stop}
use Rattle.language.proofs.record.records.Goals as goal

pub returns-in_err-record_at-clause-answer : goal.returns-in_err-record_at-clause-answer
returns-in_err-record_at-clause-answer g c =
    let p = err_from_is_err_and c.from_residual-in_err-record_at.result c.from_residual-in_err-record_at.ensures.1 in
    let decoded = g.T.FileRecord.decoded in
    let bytes = c.args.bytes.now in
    let get = record_at decoded bytes in
    let n = c.in_ok-count.count in
    let whole : records_of decoded bytes ≡ rows get n = ap (λ r. then r (rows get)) (sym c.in_ok-count.ensures.answer) in
    let stop = rows_stop get n c.loop-k.k c.loop-k.records.items c.in_err-record_at.field-0.0 c.loop-k-test.true (sym c.in_err-record_at.ensures.answer) in
    rw (p.1, p.2) (whole ∙ sym c.loop-k.invariant.rest ∙ stop)

pub loop-k-preserved : goal.loop-k-preserved
loop-k-preserved g c =
    let get = record_at g.T.FileRecord.decoded c.args.bytes.now in
    record {
      length = omega arith;
      rest = rw c.push.ensures.items (rows_more get c.in_ok-count.count c.loop-k.k c.loop-k.records.items c.in_ok-record_at.field-0 c.loop-k-test.true (sym c.in_ok-record_at.ensures.answer) ∙ c.loop-k.invariant.rest);
    }
