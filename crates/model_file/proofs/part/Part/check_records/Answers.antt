use Rattle.std.proofs.Common.{◌≡◌, ◌+◌, ◌*◌, Err, sym, ap, ◌∙◌}
use Rattle.std.proofs.lemmas.Result.{err_from_is_err_and}
use Rattle.model_file.specs.Sections.{width, record_fault}
use Rattle.model_file.proofs.Walk.{records_after}
use Rattle.model_file.proofs.part.Part.check_records.Goals as goal

pub returns-in_err-check_record : goal.returns-in_err-check_record
returns-in_err-check_record c =
    let p = err_from_is_err_and c.from_residual.result c.from_residual.ensures.1 in
    let was : c.check_record.result ≡ record_fault c.args.bytes.now c.args.self (c.args.from + width c.args.self * c.loop-i.i) c.loop-i.i = rw (c.width-width.ensures.answer, c.from.ensures) at c.check_record.ensures.answer in
    let e = records_after c.args.bytes.now c.args.self c.args.count c.loop-i.i c.args.from c.loop-i-test.true (sym was ∙ c.in_err-check_record.was) in
    record { answer = p.1 ∙ ap Err p.2 ∙ sym (c.loop-i.invariant ∙ e) }

pub loop-i-preserved : goal.loop-i-preserved
loop-i-preserved c =
    let was : c.check_record.result ≡ record_fault c.args.bytes.now c.args.self (c.args.from + width c.args.self * c.loop-i.i) c.loop-i.i = rw (c.width-width.ensures.answer, c.from.ensures) at c.check_record.ensures.answer in
    c.loop-i.invariant ∙ records_after c.args.bytes.now c.args.self c.args.count c.loop-i.i c.args.from c.loop-i-test.true (sym was ∙ c.in_ok-check_record.was)
