-- The number of each refusal.
use Rattle.std.specs.Prelude.{ℕ}
use Rattle.system.specs.declared.refusal.Refusal.{Refusal}
use Rattle.system.specs.declared.refusal.Refusal.TheVariants.{OutsideSet, NoMove, NoOutcome, WrongBuffer, TrailFull, TrailEmpty, TooManyStates}

abbrev pub refusal_number : Refusal → ℕ
refusal_number OutsideSet = 10
refusal_number NoMove = 11
refusal_number NoOutcome = 12
refusal_number WrongBuffer = 13
refusal_number TrailFull = 14
refusal_number TrailEmpty = 15
refusal_number TooManyStates = 17
