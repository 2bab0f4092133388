-- What a closure answers at the numbers below a bound.
--     Computes n post f   each of its calls at a number below n answers as f, where `post` has its answers
use Rattle.std.specs.Prelude.{◌≡◌, ℕ, ◌<◌}

abbrev pub Computes : {X : Type 0} → ℕ → (ℕ → X → Type 0) → (ℕ → X) → Type 0
Computes n post f = (i : ℕ) (x : _) → i < n → post i x → x ≡ f i
