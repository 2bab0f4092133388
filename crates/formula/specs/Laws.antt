-- What each data language promises, of formulas. Assumes nothing.
use Rattle.std.specs.Prelude.{◌≡◌, ℕ, zero, suc, ◌<◌, ◌≤◌, Bool, true, false, cond, ◌||◌, List, length, ◌==◌, nat_lt, refl}
use Rattle.std.proofs.Common.{ap, ⊎_elim, arith}
use Rattle.std.proofs.lemmas.Bool.{and_parts, cond_both, eq-eqb, eqb-true, ltb-true, or_cases, or_left, or_right, false≢true}
use Rattle.language.specs.Meanings.{Agree, Lawful, word}
use Rattle.formula.specs.Among.{value_beyond, names_beyond}
use Rattle.formula.specs.Cells.{lawful, lawful_among, ruled, cell_at, step_of, reads_of, applied, value_among, names_among, meaning_of, meaning_among}
use Rattle.formula.specs.declared.cell.Operation.{Operation}
use Rattle.formula.specs.declared.cell.Operation.TheVariants.{Sum, Difference, Product, Equal, Less}
use Rattle.formula.specs.declared.cell.Cell.{Cell}
use Rattle.formula.specs.declared.cell.Cell.TheVariants.{Constant, Variable, Binary, Choose}

-- no value passes 65,535
applied_small : (op : Operation) (x y : ℕ) → x ≤ 65535 → applied op x y ≤ 65535
applied_small Sum x y h = omega arith
applied_small Difference x y h = omega arith
applied_small Product x y h = omega arith
applied_small Equal x y h = cond_both (x == y) 1 0 (λ z. z ≤ 65535) (λ _. omega arith) (λ _. omega arith)
applied_small Less x y h = cond_both (nat_lt x y) 1 0 (λ z. z ≤ 65535) (λ _. omega arith) (λ _. omega arith)

step_small : (c : Cell) (v : List ℕ) (f : ℕ → ℕ) → ((a : ℕ) → f a ≤ 65535) → step_of c v f ≤ 65535
step_small (Constant a) v f h = omega arith
step_small (Variable x) v f h = omega arith
step_small (Binary op a b) v f h = applied_small op (f a) (f b) (h a)
step_small (Choose a b c) v f h = cond_both (f a == 0) (f c) (f b) (λ z. z ≤ 65535) (λ _. h c) (λ _. h b)

pub value_small : (cs : List Cell) (v : List ℕ) (n e : ℕ) → value_among cs v n e ≤ 65535
value_small cs v zero e = omega arith
value_small cs v (suc n) e =
    cond_both (e == n) (step_of (cell_at cs n) v (value_among cs v n)) (value_among cs v n e) (λ z. z ≤ 65535)
    (λ _. step_small (cell_at cs n) v (value_among cs v n) (value_small cs v n))
    (λ _. value_small cs v n e)

-- a named variable is below 16
reads_low : (n : ℕ) (c : Cell) (x : ℕ) (f : ℕ → Bool) → ruled n c ≡ true → ((a : ℕ) → f a ≡ true → x < 16) → reads_of c x f ≡ true → x < 16
reads_low n (Constant a) x f ok low h = absurd (false≢true h)
reads_low n (Variable y) x f ok low h = omega (arith, eqb-true y x h, ltb-true y 16 ok)
reads_low n (Binary op a b) x f ok low h = ⊎_elim (low a) (low b) (or_cases (f a) (f b) h)
reads_low n (Choose a b c) x f ok low h =
    ⊎_elim (λ ab. ⊎_elim (low a) (low b) (or_cases (f a) (f b) ab)) (low c) (or_cases (f a || f b) (f c) h)

pub names_low : (cs : List Cell) (x n e : ℕ) → lawful_among cs n ≡ true → names_among cs x n e ≡ true → x < 16
names_low cs x zero e ok h = absurd (false≢true h)
names_low cs x (suc n) e ok h =
    let parts = and_parts (lawful_among cs n) (ruled n (cell_at cs n)) ok in
    cond_both (e == n) (reads_of (cell_at cs n) x (names_among cs x n)) (names_among cs x n e) (λ b. b ≡ true → x < 16)
    (λ _. reads_low n (cell_at cs n) x (names_among cs x n) parts.1 (λ a. names_low cs x n a parts.0))
    (λ _. names_low cs x n e parts.0)
    h

-- valuations that agree on what is named give one value
module _ (v w : List ℕ) where
  step_agrees : (c : Cell) (f g : ℕ → ℕ) (named : ℕ → ℕ → Bool) → ((a : ℕ) → Agree (λ x. named x a) v w → f a ≡ g a) → Agree (λ x. reads_of c x (named x)) v w → step_of c v f ≡ step_of c w g
  step_agrees (Constant a) f g named ih h = refl
  step_agrees (Variable y) f g named ih h = ap word (h y (eq-eqb y y refl))
  step_agrees (Binary op a b) f g named ih h =
      let p : f a ≡ g a = ih a (λ x t. h x (or_left (named x a) (named x b) t)) in
      let q : f b ≡ g b = ih b (λ x t. h x (or_right (named x a) (named x b) t)) in
      cc
  step_agrees (Choose a b c) f g named ih h =
      let p : f a ≡ g a = ih a (λ x t. h x (or_left (named x a || named x b) (named x c) (or_left (named x a) (named x b) t))) in
      let q : f b ≡ g b = ih b (λ x t. h x (or_left (named x a || named x b) (named x c) (or_right (named x a) (named x b) t))) in
      let r : f c ≡ g c = ih c (λ x t. h x (or_right (named x a || named x b) (named x c) t)) in
      cc

  either_agrees : (t : Bool) (a a' b b' : ℕ) (m n : ℕ → Bool) → (Agree m v w → a ≡ a') → (Agree n v w → b ≡ b') → Agree (λ x. cond t (m x) (n x)) v w → cond t a b ≡ cond t a' b'
  either_agrees true a a' b b' m n p q h = p h
  either_agrees false a a' b b' m n p q h = q h

  pub value_agrees : (cs : List Cell) (n e : ℕ) → Agree (λ x. names_among cs x n e) v w → value_among cs v n e ≡ value_among cs w n e
  value_agrees cs zero e h = refl
  value_agrees cs (suc n) e h =
      either_agrees (e == n) _ _ _ _ (λ x. reads_of (cell_at cs n) x (names_among cs x n)) (λ x. names_among cs x n e)
      (step_agrees (cell_at cs n) (value_among cs v n) (value_among cs w n) (λ x a. names_among cs x n a) (λ a. value_agrees cs n a))
      (value_agrees cs n e)
      h

-- the first n cells, each of which keeps the rules, are a lawful language
pub lawful_language_among : (cs : List Cell) (n : ℕ) → n ≤ 256 → lawful_among cs n ≡ true → Lawful (meaning_among cs n)
lawful_language_among cs n few ok =
    record {
      few = few;
      small = λ e v. value_small cs v n e;
      named = λ e x h. names_low cs x n e ok h;
      beyond = λ e v le. value_beyond cs v n e le;
      nameless = λ e x le. names_beyond cs x n e le;
      agrees = λ e v w h. value_agrees v w cs n e h;
    }

-- and so are cells that each keep the rules
pub lawful_language : (cs : List Cell) → length cs ≤ 256 → lawful cs ≡ true → Lawful (meaning_of cs)
lawful_language cs = lawful_language_among cs (length cs)
