-- The number and the record of a fault of a data file.
use Rattle.std.specs.Prelude.{ℕ}
use Rattle.language.specs.declared.fault.DataFault.{DataFault}
use Rattle.language.specs.declared.fault.DataFault.TheVariants.{Version, Length, Rule}

abbrev pub number_of : DataFault → ℕ
number_of Version = 31
number_of (Length k) = 32
number_of (Rule k) = 33

abbrev pub record_of : DataFault → ℕ
record_of Version = 0
record_of (Length k) = k
record_of (Rule k) = k
