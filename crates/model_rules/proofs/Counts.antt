-- Sums that are 0 or 1, and how often a number stands in a list. Assumes nothing.
use Rattle.std.proofs.Common.{◌≡◌, ℕ, zero, suc, ◌+◌, ◌<◌, ◌≤◌, eqb, List, [], ◌∷◌, length, get_or, refl, ap, ◌∙◌, ⊎_elim, arith}
use Rattle.std.proofs.lemmas.Bool.{cases_lt, cases_eq, eq-eqb, ne_eqb}
use Rattle.std.proofs.lemmas.Bool.Decides.{nat_tests}
use Rattle.model_rules.specs.Sound.{Once}
use Rattle.model_rules.specs.Tallies.{one, occurs, total}

pub one_given : (a b : ℕ) → a ≡ b → one (eqb a b) ≡ 1
one_given a b e = ap one (eq-eqb a b e)

pub one_other : (a b : ℕ) → (a ≡ b → ⊥) → one (eqb a b) ≡ 0
one_other a b ne = ap one (ne_eqb a b ne)

pub one_is : (a b : ℕ) → 0 < one (eqb a b) → a ≡ b
one_is a b h = grind (arith, nat_tests)

module _ (f : ℕ → ℕ) where
  pub total_zero : (k i : ℕ) → total f k i ≡ 0 → (j : ℕ) → i ≤ j → j < i + k → f j ≡ 0
  total_zero zero i h j low high = absurd (omega arith)
  total_zero (suc k) i h j low high =
      ⊎_elim (λ (lt : i < j). total_zero k (i + 1) (omega arith) j (omega arith) (omega arith))
      (λ (le : j ≤ i). let e : j ≡ i = omega arith in ap f e ∙ omega arith) (cases_lt i j)

  pub total_none : (k i : ℕ) → ((j : ℕ) → i ≤ j → j < i + k → f j ≡ 0) → total f k i ≡ 0
  total_none zero i all = refl
  total_none (suc k) i all =
      let a = all i (omega arith) (omega arith) in
      let b = total_none k (i + 1) (λ j low high. all j (omega arith) (omega arith)) in
      omega arith

  pub total_some : (k i : ℕ) → 0 < total f k i → (j : ℕ) × (i ≤ j) × (j < i + k) × (0 < f j)
  total_some zero i h = absurd (omega arith)
  total_some (suc k) i h =
      ⊎_elim (λ (lt : 0 < f i). (i, omega arith, omega arith, lt))
      (λ (le : f i ≤ 0). let q = total_some k (i + 1) (omega arith) in (q.0, omega (arith, q.1), omega (arith, q.2), q.3)) (cases_lt 0 (f i))

  pub total_least : (k i j : ℕ) → i ≤ j → j < i + k → f j ≤ total f k i
  total_least zero i j low high = absurd (omega arith)
  total_least (suc k) i j low high =
      ⊎_elim (λ (lt : i < j). let q = total_least k (i + 1) j (omega arith) (omega arith) in omega arith)
      (λ (le : j ≤ i). let e : f j ≡ f i = ap f (omega arith) in omega arith) (cases_lt i j)

  -- one term of the sum is 1, and no other counts
  pub record Single (k i : ℕ) : Type 0 where
    pub at : ℕ
    pub low : i ≤ at
    pub high : at < i + k
    pub one : f at ≡ 1
    pub others : (j : ℕ) → i ≤ j → j < i + k → (j ≡ at → ⊥) → f j ≡ 0

  pub total_one : (k i : ℕ) → total f k i ≡ 1 → Single k i
  total_one zero i h = absurd (omega arith)
  total_one (suc k) i h =
      ⊎_elim (λ (lt : 0 < f i).
      let rest : total f k (i + 1) ≡ 0 = omega arith in
      record { at = i; low = omega arith; high = omega arith; one = omega arith; others = λ j low high ne. total_zero k (i + 1) rest j (omega arith) (omega arith) })
      (λ (le : f i ≤ 0).
      let q = total_one k (i + 1) (omega arith) in
      record {
        at = q.at;
        low = omega (arith, q.low);
        high = omega (arith, q.high);
        one = q.one;
        others = λ j low high ne. ⊎_elim (λ (lt : i < j). q.others j (omega arith) (omega arith) ne)
            (λ (same : j ≤ i). let e : f j ≡ f i = ap f (omega arith) in omega arith) (cases_lt i j);
      })
      (cases_lt 0 (f i))

  pub total_single : (k i : ℕ) → Single k i → total f k i ≡ 1
  total_single zero i q = absurd (omega (arith, q.low, q.high))
  total_single (suc k) i q =
      ⊎_elim (λ (lt : i < q.at).
      let a = q.others i (omega arith) (omega arith) (λ e. omega arith) in
      let b = total_single k (i + 1) (record { at = q.at; low = omega arith; high = omega (arith, q.high); one = q.one; others = λ j low high ne. q.others j (omega arith) (omega arith) ne }) in
      omega arith)
      (λ (le : q.at ≤ i).
      let e : f i ≡ f q.at = ap f (omega (arith, q.low)) in
      let b = total_none k (i + 1) (λ j low high. q.others j (omega arith) (omega arith) (λ s. omega arith)) in
      omega (arith, q.one))
      (cases_lt i q.at)

-- n stands in xs at k
abbrev pub At : List ℕ → ℕ → ℕ → Type 0
At xs n k = (k < length xs) × (get_or xs k 0 ≡ n)

pub occurs_zero : (n : ℕ) (xs : List ℕ) → occurs n xs ≡ 0 → (k : ℕ) → At xs n k → ⊥
occurs_zero n [] h k (low, at) = omega arith
occurs_zero n (x ∷ xs) h zero (low, at) = let e = one_given x n at in omega arith
occurs_zero n (x ∷ xs) h (suc k) (low, at) = occurs_zero n xs (omega arith) k (omega arith, at)

pub occurs_none : (n : ℕ) (xs : List ℕ) → ((k : ℕ) → At xs n k → ⊥) → occurs n xs ≡ 0
occurs_none n [] none = refl
occurs_none n (x ∷ xs) none =
    let a = one_other x n (λ e. none 0 (omega arith, e)) in
    let b = occurs_none n xs (λ k at. none (suc k) (omega (arith, at.0), at.1)) in
    omega arith

alone : (n x : ℕ) (xs : List ℕ) → occurs n xs ≡ 0 → (k : ℕ) → At (x ∷ xs) n k → k ≡ 0
alone n x xs rest zero at = refl
alone n x xs rest (suc k) (low, at) = absurd (occurs_zero n xs rest k (omega arith, at))

later : (n x : ℕ) (xs : List ℕ) → (x ≡ n → ⊥) → (m : ℕ) → ((k : ℕ) → At xs n k → k ≡ m) → (k : ℕ) → At (x ∷ xs) n k → k ≡ suc m
later n x xs ne m same zero (low, at) = absurd (ne at)
later n x xs ne m same (suc k) (low, at) = ap suc (same k (omega arith, at))

pub occurs_one : (n : ℕ) (xs : List ℕ) → occurs n xs ≡ 1 → Once (At xs n)
occurs_one n [] h = absurd (omega arith)
occurs_one n (x ∷ xs) h =
    ⊎_elim (λ (e : x ≡ n).
    let a = one_given x n e in
    let rest : occurs n xs ≡ 0 = omega arith in
    (0, (omega arith, e), alone n x xs rest))
    (λ (ne : x ≡ n → ⊥).
    let a = one_other x n ne in
    let q = occurs_one n xs (omega arith) in
    (suc q.0, (omega (arith, q.1.0), q.1.1), later n x xs ne q.0 q.2))
    (cases_eq x n)

pub occurs_single : (n : ℕ) (xs : List ℕ) (k : ℕ) → At xs n k → ((j : ℕ) → At xs n j → j ≡ k) → occurs n xs ≡ 1
occurs_single n [] k (low, at) same = absurd (omega arith)
occurs_single n (x ∷ xs) zero (low, at) same =
    let a = one_given x n at in
    let b = occurs_none n xs (λ j q. let e = same (suc j) (omega (arith, q.0), q.1) in omega arith) in
    omega arith
occurs_single n (x ∷ xs) (suc k) (low, at) same =
    let a = one_other x n (λ e. let z = same 0 (omega arith, e) in omega arith) in
    let b = occurs_single n xs k (omega arith, at) (λ j q. let e = same (suc j) (omega (arith, q.0), q.1) in omega arith) in
    omega arith
