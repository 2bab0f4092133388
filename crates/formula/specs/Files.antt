-- A formula file: after the header a count of cells, then cells of four words: operation, a, b, c.
--     decoded k op a b c    cell k by its words, or none where a word is off its rules
--     formula_file bs       the cells of a file, or its first fault in file order
--     formula_language bs   the language of a file
use Rattle.std.specs.Prelude.{ℕ, cond, ◌&&◌, List, length, Some, None, Ok, Err, Option, Result, ◌==◌, nat_lt}
use Rattle.language.specs.Files.{then, record_place, records_of}
use Rattle.language.specs.Meanings.{Meaning}
use Rattle.language.specs.declared.fault.DataFault.{DataFault}
use Rattle.language.specs.declared.fault.DataFault.TheVariants.{Length}
use Rattle.formula.specs.Cells.{meaning_of}
use Rattle.formula.specs.declared.cell.Operation.{Operation}
use Rattle.formula.specs.declared.cell.Operation.TheVariants.{Sum, Difference, Product, Equal, Less}
use Rattle.formula.specs.declared.cell.Cell.{Cell}
use Rattle.formula.specs.declared.cell.Cell.TheVariants.{Constant, Variable, Binary, Choose}

-- an operation on two cells before cell k; the third field is not used
abbrev pub binary : ℕ → ℕ → ℕ → ℕ → Operation → Option Cell
binary k a b c op = cond (nat_lt a k && nat_lt b k && c == 0) (Some (Binary op a b)) None

abbrev pub decoded : ℕ → ℕ → ℕ → ℕ → ℕ → Option Cell
decoded k op a b c =
    cond (op == 0) (cond (b == 0 && c == 0) (Some (Constant a)) None)
    (cond (op == 1) (cond (nat_lt a 16 && b == 0 && c == 0) (Some (Variable a)) None)
    (cond (op == 2) (binary k a b c Sum)
    (cond (op == 3) (binary k a b c Difference)
    (cond (op == 4) (binary k a b c Product)
    (cond (op == 5) (binary k a b c Equal)
    (cond (op == 6) (binary k a b c Less)
    (cond (op == 7) (cond (nat_lt a k && nat_lt b k && nat_lt c k) (Some (Choose a b c)) None) None)))))))

abbrev pub formula_file : List ℕ → Result (List Cell) DataFault
formula_file bs = then (records_of decoded bs) (λ cs. cond (length bs == record_place (length cs)) (Ok cs) (Err (Length 0)))

abbrev pub formula_language : List ℕ → Result Meaning DataFault
formula_language bs = then (formula_file bs) (λ cs. Ok (meaning_of cs))
