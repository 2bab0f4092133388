-- A formula by its cells. Assumes nothing.
--     applied op x y             what an operation gives
--     step_of c v f              a cell's value, where f has the values of the cells before it
--     reads_of c x f             whether a cell names x, where f says it of the cells before it
--     value_among, names_among   the same of cell e among the first n
--     lawful_among cs n          each of the first n cells keeps the rules
--     lawful cs                  each cell does
--     meaning_among cs n         the language of the first n cells
--     meaning_of cs              the language of the cells
use Rattle.std.specs.Prelude.{ℕ, zero, suc, ◌+◌, ◌-◌, ◌*◌, Bool, true, false, cond, ◌&&◌, ◌||◌, List, length, ◌==◌, nat_lt, slice_index_or}
use Rattle.language.specs.Files.{every}
use Rattle.language.specs.Meanings.{Meaning, value_at, word}
use Rattle.formula.specs.declared.cell.Operation.{Operation}
use Rattle.formula.specs.declared.cell.Operation.TheVariants.{Sum, Difference, Product, Equal, Less}
use Rattle.formula.specs.declared.cell.Cell.{Cell}
use Rattle.formula.specs.declared.cell.Cell.TheVariants.{Constant, Variable, Binary, Choose}

abbrev pub applied : Operation → ℕ → ℕ → ℕ
applied Sum x y = word (x + y)
applied Difference x y = x - y
applied Product x y = word (x * y)
applied Equal x y = cond (x == y) 1 0
applied Less x y = cond (nat_lt x y) 1 0

abbrev pub cell_at : List Cell → ℕ → Cell
cell_at cs e = slice_index_or cs e (Constant 0)

abbrev pub step_of : Cell → List ℕ → (ℕ → ℕ) → ℕ
step_of (Constant a) v f = word a
step_of (Variable x) v f = word (value_at v x)
step_of (Binary op a b) v f = applied op (f a) (f b)
step_of (Choose a b c) v f = cond (f a == 0) (f c) (f b)

abbrev pub value_among : List Cell → List ℕ → ℕ → ℕ → ℕ
value_among cs v zero e = 0
value_among cs v (suc n) e = cond (e == n) (step_of (cell_at cs n) v (value_among cs v n)) (value_among cs v n e)

abbrev pub reads_of : Cell → ℕ → (ℕ → Bool) → Bool
reads_of (Constant a) x f = false
reads_of (Variable y) x f = y == x
reads_of (Binary op a b) x f = f a || f b
reads_of (Choose a b c) x f = f a || f b || f c

abbrev pub names_among : List Cell → ℕ → ℕ → ℕ → Bool
names_among cs x zero e = false
names_among cs x (suc n) e = cond (e == n) (reads_of (cell_at cs n) x (names_among cs x n)) (names_among cs x n e)

-- the rules of cell k: a variable is 0 to 15, an operand is a cell before it
abbrev pub ruled : ℕ → Cell → Bool
ruled k (Constant a) = true
ruled k (Variable x) = nat_lt x 16
ruled k (Binary op a b) = nat_lt a k && nat_lt b k
ruled k (Choose a b c) = nat_lt a k && nat_lt b k && nat_lt c k

abbrev pub lawful_among : List Cell → ℕ → Bool
lawful_among cs n = every (λ k. ruled k (cell_at cs k)) n

abbrev pub lawful : List Cell → Bool
lawful cs = lawful_among cs (length cs)

abbrev pub meaning_among : List Cell → ℕ → Meaning
meaning_among cs n = record { count = n; value = λ e v. value_among cs v n e; names = λ e x. names_among cs x n e }

abbrev pub meaning_of : List Cell → Meaning
meaning_of cs = meaning_among cs (length cs)
