-- The records that a file gives keep the rules. Assumes nothing.
use Rattle.std.proofs.Common.{◌≡◌, ℕ, true, List, IfSome, IfOk, Some, None}
use Rattle.std.proofs.lemmas.Bool.{cond_both}
use Rattle.language.specs.Files.{records_of}
use Rattle.language.proofs.Runs.{records_ruled}
use Rattle.table.specs.Files.{decoded}
use Rattle.table.specs.Records.{no_record, ruled, lawful}
use Rattle.table.specs.declared.record.Record.{Record}

decoded_ruled : (k a b m start : ℕ) → IfSome (decoded k a b m start) (λ r. ruled r ≡ true)
decoded_ruled k a b m start =
    let here : Record = record { a = a; b = b; m = m; start = start } in
    cond_both (ruled here) (Some here) None (λ o. IfSome o (λ r. ruled r ≡ true)) (λ h. h) (λ _. tt)

pub records_lawful : (bs : List ℕ) → IfOk (records_of decoded bs) (λ rs. lawful rs ≡ true)
records_lawful bs = records_ruled decoded bs (λ _. ruled) no_record decoded_ruled
