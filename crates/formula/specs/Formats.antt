-- A formula file written down from its cells, in the format's order.
--     cell_words c       operation, a, b, c; fields that are not used are 0
--     formula_bytes cs   header, count of cells, cells
use Rattle.std.specs.Prelude.{ℕ, List, [], ◌∷◌, length}
use Rattle.std.specs.List.{flat_map}
use Rattle.words.specs.Headers.{headed}
use Rattle.words.specs.Words.{bytes_of}
use Rattle.formula.specs.declared.cell.Operation.{Operation}
use Rattle.formula.specs.declared.cell.Operation.TheVariants.{Sum, Difference, Product, Equal, Less}
use Rattle.formula.specs.declared.cell.Cell.{Cell}
use Rattle.formula.specs.declared.cell.Cell.TheVariants.{Constant, Variable, Binary, Choose}

abbrev pub operation_number : Operation → ℕ
operation_number Sum = 2
operation_number Difference = 3
operation_number Product = 4
operation_number Equal = 5
operation_number Less = 6

abbrev pub cell_words : Cell → List ℕ
cell_words (Constant a) = 0 ∷ (a ∷ (0 ∷ (0 ∷ [])))
cell_words (Variable x) = 1 ∷ (x ∷ (0 ∷ (0 ∷ [])))
cell_words (Binary op a b) = operation_number op ∷ (a ∷ (b ∷ (0 ∷ [])))
cell_words (Choose a b c) = 7 ∷ (a ∷ (b ∷ (c ∷ [])))

abbrev pub formula_bytes : List Cell → List ℕ
formula_bytes cs = headed (bytes_of (length cs ∷ flat_map cell_words cs))
