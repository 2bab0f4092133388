-- What is read one part after another, where no part has a fault. Assumes nothing.
use Rattle.std.proofs.Common.{◌≡◌, Ok, Err, Result, ap, ◌∙◌}
use Rattle.linear.specs.Reading.{then}
use Rattle.linear.specs.declared.fault.LinearFault.{LinearFault}

pub then_ok : {X Y : Type 0} {r : Result X LinearFault} {x : X} {z : Result Y LinearFault} (f : X → Result Y LinearFault) → Ok x ≡ r → z ≡ f x → z ≡ then r f
then_ok f e h = h ∙ ap (λ s. then s f) e

pub then_err : {X Y : Type 0} {r : Result X LinearFault} {x : LinearFault} (f : X → Result Y LinearFault) → Err x ≡ r → Err x ≡ then r f
then_err f e = ap (λ s. then s f) e
