-- The formula that a file gives. Assumes nothing.
use Rattle.std.proofs.Common.{◌≡◌, ℕ, true, List, IfOk, Ok}
use Rattle.std.proofs.lemmas.Result.{IfOk-at_ok}
use Rattle.words.specs.Words.{Bytes}
use Rattle.language.specs.Files.{records_of}
use Rattle.language.proofs.Runs.{records_ruled}
use Rattle.formula.specs.Cells.{lawful, ruled, meaning_of}
use Rattle.formula.specs.Files.{decoded, formula_file}
use Rattle.formula.specs.Formats.{formula_bytes}
use Rattle.formula.specs.Rules.{ReadsAs}
use Rattle.formula.specs.declared.cell.Cell.{Cell}
use Rattle.formula.specs.declared.cell.Cell.TheVariants.{Constant}
use Rattle.formula.proofs.Decoding.{decoded_ruled}
use Rattle.formula.proofs.Formats.{file_bytes}
use Rattle.formula.proofs.Meant.{means}

pub cells_lawful : (bs : List ℕ) → IfOk (records_of decoded bs) (λ cs. lawful cs ≡ true)
cells_lawful bs = records_ruled decoded bs ruled (Constant 0) decoded_ruled

pub read_as : (bs : List ℕ) (cs : List Cell) → Bytes bs → lawful cs ≡ true → formula_file bs ≡ Ok cs → ReadsAs bs (meaning_of cs)
read_as bs cs low ok file =
    (cs, record { file = file; bytes = IfOk-at_ok (λ ds. bs ≡ formula_bytes ds) file (file_bytes bs low); means = means cs ok })
