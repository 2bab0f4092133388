-- Flags that are set one after the other where a test holds, others kept. Assumes nothing.
use Rattle.std.proofs.Common.{◌≡◌, ℕ, ◌+◌, ◌<◌, ◌≤◌, Bool, true, false, ◌&&◌, ◌||◌, eqb, ltb, sym, ap, ◌∙◌, ⊎_elim, arith}
use Rattle.std.proofs.lemmas.Bool.{cases_eq, cases_lt, lt-ltb, le-ltb, eq-eqb, ne_eqb}

module _ (s : ℕ → Bool) (b : Bool) where
  -- the flag of node k once the nodes below i were tested
  abbrev pub flagged : ℕ → ℕ → Bool
  flagged i k = (ltb k i && s k) || b

  pub flagged_none : (k : ℕ) → b ≡ flagged 0 k
  flagged_none k = ap (λ t. (t && s k) || b) (sym (le-ltb k 0 (omega arith)))

  pub flagged_all : (i k : ℕ) → k < i → flagged i k ≡ (s k || b)
  flagged_all i k l = ap (λ t. (t && s k) || b) (lt-ltb k i l)

  other : (i k : ℕ) → (k ≡ i → ⊥) → flagged i k ≡ flagged (i + 1) k
  other i k e = ap (λ t. (t && s k) || b) (⊎_elim (λ (l : k < i). lt-ltb k i l ∙ sym (lt-ltb k (i + 1) (omega arith))) (λ (l : i ≤ k). le-ltb k i l ∙ sym (le-ltb k (i + 1) (omega (arith, e)))) (cases_lt k i))

  here : (i k : ℕ) → k ≡ i → flagged (i + 1) k ≡ (s i || b)
  here i k e = flagged_all (i + 1) k (omega arith) ∙ ap (λ j. s j || b) e

  pub flagged_off : (i k : ℕ) → s i ≡ false → flagged i k ≡ flagged (i + 1) k
  flagged_off i k z = ⊎_elim
      (λ (e : k ≡ i). ap (λ t. (t && s k) || b) (le-ltb k i (omega arith)) ∙ sym (here i k e ∙ ap (λ t. t || b) z))
      (other i k) (cases_eq k i)

  pub flagged_on : (i k : ℕ) → s i ≡ true → (eqb i k || flagged i k) ≡ flagged (i + 1) k
  flagged_on i k z = ⊎_elim
      (λ (e : k ≡ i). ap (λ t. t || flagged i k) (eq-eqb i k (sym e)) ∙ sym (here i k e ∙ ap (λ t. t || b) z))
      (λ (e : k ≡ i → ⊥). ap (λ t. t || flagged i k) (ne_eqb i k (λ q. e (sym q))) ∙ other i k e) (cases_eq k i)
