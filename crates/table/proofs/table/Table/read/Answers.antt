use Rattle.std.proofs.Common.{◌≡◌, true, arith, rules}
use Rattle.std.proofs.lemmas.Result.{IfOk-at_ok}
use Rattle.table.specs.Records.{lawful}
use Rattle.table.proofs.Meant.{read_as}
use Rattle.table.proofs.Ruled.{records_lawful}
use Rattle.table.proofs.table.Table.read.Goals as goal

pub invariant_of-result : goal.invariant_of-result
invariant_of-result c =
    record {
      few = c.in_ok-records.ensures.room;
      ruled = IfOk-at_ok (λ rs. lawful rs ≡ true) c.in_ok-records.ensures.answer (records_lawful c.args.bytes.now);
    }

pub returns-clause-rules : goal.returns-clause-rules
returns-clause-rules c =
    read_as c.args.bytes.now (record { records = c.in_ok-records.records.items; values = c.values-values.result.items }) (λ i. omega (arith, c.type_inv.bytes i)) (search rules)
