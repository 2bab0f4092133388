use Rattle.std.proofs.Common.{◌≡◌, true, arith, rules}
use Rattle.std.proofs.lemmas.Result.{IfOk-at_ok}
use Rattle.formula.specs.Cells.{lawful}
use Rattle.formula.proofs.Files.{cells_lawful, read_as}
use Rattle.formula.proofs.formula.Formula.read.Goals as goal

pub invariant_of-result : goal.invariant_of-result
invariant_of-result c =
    record {
      few = c.in_ok-cells.ensures.room;
      ruled = IfOk-at_ok (λ cs. lawful cs ≡ true) c.in_ok-cells.ensures.answer (cells_lawful c.args.bytes.now);
    }

pub returns-clause-rules : goal.returns-clause-rules
returns-clause-rules c =
    let bytes = c.args.bytes.now in
    let ok = IfOk-at_ok (λ cs. lawful cs ≡ true) c.in_ok-cells.ensures.answer (cells_lawful bytes) in
    read_as bytes c.in_ok-cells.cells.items (λ i. omega (arith, c.type_inv.bytes i)) ok (search rules)
