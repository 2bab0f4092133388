-- What passes a test, once nothing is left.
use Rattle.std.proofs.Common.{◌≡◌, ℕ, ◌+◌, Bool, List, [], length, filter, ap, arith}

pub counted : {X : Type 0} (p : X → Bool) (left before all : List X) (n : ℕ) → left ≡ [] → before ≡ all → n + length (filter p left) ≡ length (filter p before) → n ≡ length (filter p all)
counted p left before all n e b h = omega (arith, ap (λ xs. length (filter p xs)) e, ap (λ xs. length (filter p xs)) b, h)
