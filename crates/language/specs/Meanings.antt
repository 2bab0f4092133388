-- What a data language means. Assumes nothing.
--     Meaning        how many expressions, the value of each under a valuation, the variables it names
--     value_at v x   the value of variable x in the valuation v; beyond it 0
--     Agree p v w    the valuations v and w give each variable of which p holds one value
--     Lawful L       what every data language owes
--     word n         n, or the largest value where n passes it; AtMost n w says so in words
use Rattle.std.specs.Prelude.{◌≡◌, ℕ, ◌<◌, ◌≤◌, min, Bool, true, false, List, slice_index}

pub record Meaning : Type 0 where
  pub count : ℕ
  pub value : ℕ → List ℕ → ℕ
  pub names : ℕ → ℕ → Bool

abbrev pub value_at : List ℕ → ℕ → ℕ
value_at v x = slice_index v x

-- the largest value is 65,535
abbrev pub word : ℕ → ℕ
word n = min n 65535

abbrev pub AtMost : ℕ → ℕ → Type 0
AtMost n w = (n ≤ 65535 → w ≡ n) × (65535 < n → w ≡ 65535)

abbrev pub Agree : (ℕ → Bool) → List ℕ → List ℕ → Type 0
Agree named v w = (x : ℕ) → named x ≡ true → value_at v x ≡ value_at w x

pub record Lawful (l : Meaning) : Type 0 where
  -- at most 256 expressions
  pub few : l.count ≤ 256
  -- values are words
  pub small : (e : ℕ) (v : List ℕ) → l.value e v ≤ 65535
  -- variables that are named are 0 to 15
  pub named : (e x : ℕ) → l.names e x ≡ true → x < 16
  -- a number from the count up has value 0
  pub beyond : (e : ℕ) (v : List ℕ) → l.count ≤ e → l.value e v ≡ 0
  -- and names nothing
  pub nameless : (e x : ℕ) → l.count ≤ e → l.names e x ≡ false
  -- valuations that agree on all variables that an expression names give it one value
  pub agrees : (e : ℕ) (v w : List ℕ) → Agree (l.names e) v w → l.value e v ≡ l.value e w

-- a language of no expressions
abbrev pub nothing : Meaning
nothing = record { count = 0; value = λ e v. 0; names = λ e x. false }
