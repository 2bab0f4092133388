-- What an answer that may lend an item shows of it. Assumes nothing.
use Rattle.std.specs.Prelude.{Some, None, Option}
use Rattle.std.specs.Borrow.{Bor}

abbrev pub shown : {X : Type 0} → Option (Bor X) → Option X
shown (Some x) = Some x.now
shown None = None
