-- Where a reader stands in a linear file. Assumes nothing.
--     Spot       the file's bytes, how many variables its equation has, the place that a fault would name, and the position
--     begun bs   before the head: no variable is known yet
--     to s p     the same at position p
use Rattle.std.specs.Prelude.{ℕ, List}
use Rattle.linear.specs.Faults.{head}
use Rattle.linear.specs.declared.fault.Place.{Place}

pub record Spot : Type 0 where
  pub bytes : List ℕ
  pub variables : ℕ
  pub place : Place
  pub at : ℕ

abbrev pub begun : List ℕ → Spot
begun bs = record { bytes = bs; variables = 0; place = head; at = 5 }

abbrev pub to : Spot → ℕ → Spot
to s p = record { bytes = s.bytes; variables = s.variables; place = s.place; at = p }
