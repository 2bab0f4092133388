-- What a formula means, in words: a relation with one rule for each operation, and what its cells reach.
--     IsCell cs e c         cell e of the formula is c
--     Evaluates cs v e n    cell e has the value n under the valuation v
--     Reaches cs e k        cell e is cell k, or an operand of cell e reaches it
--     Means cs l            the language l has just the values and names of the cells
--     ReadsAs bs l          the file bs holds cells, no word of it read as another, and l has their meaning
use Rattle.std.specs.Prelude.{◌≡◌, ℕ, ◌+◌, ◌*◌, ◌<◌, ◌≤◌, true, List, length, Ok, ◌≢◌, slice_index_or}
use Rattle.words.specs.Headers.{Iff}
use Rattle.language.specs.Meanings.{Meaning, value_at, AtMost}
use Rattle.formula.specs.Files.{formula_file}
use Rattle.formula.specs.Formats.{formula_bytes}
use Rattle.formula.specs.declared.cell.Operation.{Operation}
use Rattle.formula.specs.declared.cell.Operation.TheVariants.{Sum, Difference, Product, Equal, Less}
use Rattle.formula.specs.declared.cell.Cell.{Cell}
use Rattle.formula.specs.declared.cell.Cell.TheVariants.{Constant, Variable, Binary, Choose}

abbrev pub IsCell : List Cell → ℕ → Cell → Type 0
IsCell cs e c = (e < length cs) × (slice_index_or cs e (Constant 0) ≡ c)

-- n is 1 where a test holds, else 0
abbrev pub Tells : Type 0 → ℕ → Type 0
Tells Test n = (Test → n ≡ 1) × ((Test → ⊥) → n ≡ 0)

pub data Evaluates (cs : List Cell) (v : List ℕ) : ℕ → ℕ → Type 0 where
  constant : (e a n : ℕ) → IsCell cs e (Constant a) → AtMost a n → Evaluates cs v e n
  variable : (e x n : ℕ) → IsCell cs e (Variable x) → AtMost (value_at v x) n → Evaluates cs v e n
  sum : (e a b x y n : ℕ) → IsCell cs e (Binary Sum a b) → Evaluates cs v a x → Evaluates cs v b y → AtMost (x + y) n → Evaluates cs v e n
  difference : (e a b x y n : ℕ) → IsCell cs e (Binary Difference a b) → Evaluates cs v a x → Evaluates cs v b y → (y ≤ x → n + y ≡ x) → (x < y → n ≡ 0) → Evaluates cs v e n
  product : (e a b x y n : ℕ) → IsCell cs e (Binary Product a b) → Evaluates cs v a x → Evaluates cs v b y → AtMost (x * y) n → Evaluates cs v e n
  equal : (e a b x y n : ℕ) → IsCell cs e (Binary Equal a b) → Evaluates cs v a x → Evaluates cs v b y → Tells (x ≡ y) n → Evaluates cs v e n
  less : (e a b x y n : ℕ) → IsCell cs e (Binary Less a b) → Evaluates cs v a x → Evaluates cs v b y → Tells (x < y) n → Evaluates cs v e n
  choose : (e a b c x y z n : ℕ) → IsCell cs e (Choose a b c) → Evaluates cs v a x → Evaluates cs v b y → Evaluates cs v c z → ((x ≢ 0) → n ≡ y) → (x ≡ 0 → n ≡ z) → Evaluates cs v e n

pub data Reaches (cs : List Cell) : ℕ → ℕ → Type 0 where
  itself : (e : ℕ) → Reaches cs e e
  first : (e a b k : ℕ) (op : Operation) → IsCell cs e (Binary op a b) → Reaches cs a k → Reaches cs e k
  second : (e a b k : ℕ) (op : Operation) → IsCell cs e (Binary op a b) → Reaches cs b k → Reaches cs e k
  test : (e a b c k : ℕ) → IsCell cs e (Choose a b c) → Reaches cs a k → Reaches cs e k
  taken : (e a b c k : ℕ) → IsCell cs e (Choose a b c) → Reaches cs b k → Reaches cs e k
  otherwise : (e a b c k : ℕ) → IsCell cs e (Choose a b c) → Reaches cs c k → Reaches cs e k

pub record Means (cs : List Cell) (l : Meaning) : Type 0 where
  pub count : l.count ≡ length cs
  pub value : (v : List ℕ) (e n : ℕ) → e < length cs → Iff (l.value e v ≡ n) (Evaluates cs v e n)
  -- a formula names the variables in the cells that it reaches
  pub names : (e x : ℕ) → e < length cs → Iff (l.names e x ≡ true) ((k : ℕ) × (Reaches cs e k × IsCell cs k (Variable x)))

-- the file bs holds the cells cs: they are read from it, it is written down from them, and the language l has their values and names
pub record Reads (bs : List ℕ) (cs : List Cell) (l : Meaning) : Type 0 where
  pub file : formula_file bs ≡ Ok cs
  pub bytes : bs ≡ formula_bytes cs
  pub means : Means cs l

abbrev pub ReadsAs : List ℕ → Meaning → Type 0
ReadsAs bs l = (cs : List Cell) × Reads bs cs l
