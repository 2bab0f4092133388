-- Places numbered one after the other.
use Rattle.std.proofs.Common.{◌≡◌, ℕ, zero, suc, ◌+◌, ◌<◌, ◌≤◌, Bool, true, false, cond, List, length, get_or, set, replicate, Some, None, Option, sym, refl, ap, ◌∙◌, ap₂, ⊎_elim, add-one, arith, length-set, get_or-set_other, get_or-set_same}
use Rattle.std.proofs.lemmas.Bool.{cases_eq}
use Rattle.source.specs.declared.numbering.Counter.{Counter}
use Rattle.source.specs.Counters.{lower, counter_of, counter_at}

lower_same : (p q : ℕ → Bool) (n : ℕ) → ((k : ℕ) → k < n → p k ≡ q k) → lower p n ≡ lower q n
lower_same p q zero h = refl
lower_same p q (suc n) h = ap₂ (λ a b. a + cond b 1 0) (lower_same p q n (λ k l. h k (omega arith))) (h n (omega arith))

pub counter_same : (p q : ℕ → Bool) (n : ℕ) → ((k : ℕ) → k < suc n → p k ≡ q k) → counter_at p n ≡ counter_at q n
counter_same p q n h = ap₂ (λ b k. cond b (Some (counter_of (suc k))) None) (h n (omega arith)) (lower_same p q n (λ k l. h k (omega arith)))

-- nodes below n have their counters, the others none yet, and `next` is the next counter
abbrev pub Numbered : (ℕ → Bool) → List (Option Counter) → ℕ → ℕ → Type 0
Numbered p cs n next =
    (length cs ≡ 256) × (next ≡ suc (lower p n)) × (next ≤ suc n)
    × ((k : ℕ) → k < n → get_or cs k None ≡ counter_at p k) × ((k : ℕ) → n ≤ k → get_or cs k None ≡ None)

module _ (p : ℕ → Bool) (cs : List (Option Counter)) (n next : ℕ) (low : n < 256) (h : Numbered p cs n next) where
  more : lower p (n + 1) ≡ lower p n + cond (p n) 1 0
  more = ap (lower p) (add-one n)

  pub no_place : p n ≡ false → Numbered p cs (n + 1) next
  no_place e = (
    h.0,
    h.1 ∙ ap suc (sym (more ∙ ap (λ b. lower p n + cond b 1 0) e ∙ (let q : lower p n + 0 ≡ lower p n = omega arith in q))),
    omega (arith, h.2),
    (λ k l. ⊎_elim
        (λ (z : k ≡ n). ap (λ i. get_or cs i None) z ∙ h.4 n (omega arith) ∙ sym (ap (λ i. counter_at p i) z ∙ ap (λ b. cond b (Some (counter_of (suc (lower p n)))) None) e))
        (λ (z : k ≡ n → ⊥). h.3 k (omega (arith, z))) (cases_eq k n)),
    (λ k l. h.4 k (omega arith)),
  )

  pub a_place : p n ≡ true → Numbered p (set cs n (Some (counter_of next))) (n + 1) (next + 1)
  a_place e = (
    length-set cs n (Some (counter_of next)) ∙ h.0,
    ap (λ i. i + 1) h.1 ∙ (let q : suc (lower p n) + 1 ≡ suc (lower p n + 1) = omega arith in q) ∙ ap suc (sym (more ∙ ap (λ b. lower p n + cond b 1 0) e)),
    omega (arith, h.2),
    (λ k l. ⊎_elim
        (λ (z : k ≡ n). ap (λ i. get_or (set cs n (Some (counter_of next))) i None) z ∙ get_or-set_same cs n (Some (counter_of next)) None (omega (arith, h.0)) ∙ ap (λ i. Some (counter_of i)) h.1 ∙ sym (ap (λ i. counter_at p i) z ∙ ap (λ b. cond b (Some (counter_of (suc (lower p n)))) None) e))
        (λ (z : k ≡ n → ⊥). get_or-set_other cs n k (Some (counter_of next)) None z ∙ h.3 k (omega (arith, z))) (cases_eq k n)),
    (λ k l. get_or-set_other cs n k (Some (counter_of next)) None (λ z. omega (arith, z)) ∙ h.4 k (omega arith)),
  )

pub nones : (n k : ℕ) → get_or {A = Option Counter} (replicate n None) k None ≡ None
nones zero k = refl
nones (suc n) zero = refl
nones (suc n) (suc k) = nones n k
