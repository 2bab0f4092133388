-- A linear equation as clauses see it: the records of src/, whose tables of fixed size are seen as lists. Assumes nothing.
--     Guarded      when a summand may be taken: program counter, sum variables and conditions from the top
--     Acts         an action, its arguments, its variable and weight
--     Leads        the next program counter, and an entry for each variable
--     Summand D    a summand that does a D: `Acts`, or waits at the rate of an expression
--     Vector       a program counter and a value for each variable
--     Linear       an equation: two lists of summands of two types
use Rattle.std.specs.Prelude.{ℕ, List, []}
use Rattle.linear.specs.declared.entry.Entry.{Entry}
use Rattle.linear.specs.declared.table.Vector as vector

pub record Guarded : Type 0 where
  pub counter : ℕ
  pub sums : List ℕ
  pub conditions : List ℕ

pub record Acts : Type 0 where
  pub action : ℕ
  pub arguments : List ℕ
  pub variable : ℕ
  pub weight : ℕ

pub record Leads : Type 0 where
  pub counter : ℕ
  pub entries : List Entry

pub record Summand (D : Type 0) : Type 0 where
  pub when : Guarded
  pub does : D
  pub leads : Leads

abbrev pub Vector : Type 0
Vector = vector.Vector

pub record Linear : Type 0 where
  pub sizes : List ℕ
  pub counters : ℕ
  pub first : Vector
  pub actions : List (Summand Acts)
  pub delays : List (Summand ℕ)

-- no variables, one program counter, no summands
abbrev pub smallest_of : Linear
smallest_of = record { sizes = []; counters = 1; first = record { counter = 1; values = [] }; actions = []; delays = [] }
