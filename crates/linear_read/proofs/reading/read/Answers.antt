use Rattle.std.proofs.Common.{Ok, Err, sym, ap, ◌∙◌, arith}
use Rattle.std.proofs.lemmas.Result.{err_from_is_err_and}
use Rattle.linear.specs.Reading.{answer_of}
use Rattle.linear.proofs.Wholes.{read_whole}
use Rattle.linear_read.proofs.Composed.{read_rules}
use Rattle.linear_read.proofs.reading.read.Goals as goal

pub returns-in_err-equation-clause-rules : goal.returns-in_err-equation-clause-rules
returns-in_err-equation-clause-rules c =
    let p = err_from_is_err_and c.from_residual.result c.from_residual.ensures.1 in
    read_rules c.args.bytes.now (λ i. omega (arith, c.type_inv.bytes i)) _ (p.1 ∙ (ap Err p.2 ∙ sym (ap answer_of c.in_err-equation.ensures.answer)))

pub returns-clause-rules : goal.returns-clause-rules
returns-clause-rules c = read_rules c.args.bytes.now (λ i. omega (arith, c.type_inv.bytes i)) (Ok tt) (sym (ap answer_of c.in_ok-equation.ensures.answer))

pub returns-clause-trips : goal.returns-clause-trips
returns-clause-trips c = sym (read_whole c.args.bytes.now (λ i. omega (arith, c.type_inv.bytes i)) c.in_ok-equation.equation.table c.in_ok-equation.ensures.answer).1
