use Rattle.std.proofs.Common.{arith}
use Rattle.linear.proofs.Wholes.{read_whole}
use Rattle.linear_read.proofs.Composed.{equation_read}
use Rattle.linear_read.proofs.reading.equation_in.Goals as goal

pub invariant_of-result : goal.invariant_of-result
invariant_of-result c =
    let bytes = c.args.bytes.now in
    let e = c.in_ok-table.table in
    let is = equation_read bytes e c.in_ok-table.ensures.answer c.in_ok-check_names.ensures.answer c.in_ok-check_products.ensures.answer in
    record { lawful = (read_whole bytes (λ i. omega (arith, c.type_inv.bytes i)) e is).0 }
