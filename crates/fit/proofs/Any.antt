-- Some number below n. Assumes nothing.
use Rattle.std.proofs.Common.{◌≡◌, ℕ, zero, suc, ◌+◌, ◌<◌, Bool, true, false, ◌||◌, sym, refl, ap, ◌∙◌, ⊎_elim, add-one, arith}
use Rattle.std.proofs.lemmas.Bool.{cases_eq, or_parts, or_from}
use Rattle.fit.specs.Scopes.{any_below}

module _ (f : ℕ → Bool) where
  pub below_zero : any_below f 0 ≡ false
  unfolding any_below
  below_zero = refl

  pub below_more : (n : ℕ) → any_below f (n + 1) ≡ (f n || any_below f n)
  unfolding any_below
  below_more n = ap (any_below f) (add-one n)

  pub below_none : (n : ℕ) → ((i : ℕ) → i < n → f i ≡ false) → any_below f n ≡ false
  unfolding any_below
  below_none zero h = refl
  below_none (suc n) h = or_from (f n) (any_below f n) (h n (omega arith)) (below_none n (λ i l. h i (omega arith)))

  pub below_at : (n i : ℕ) → any_below f n ≡ false → i < n → f i ≡ false
  unfolding any_below
  below_at zero i h l = absurd (omega arith)
  below_at (suc n) i h l =
      let p = or_parts (f n) (any_below f n) h in
      ⊎_elim (λ (e : i ≡ n). ap f e ∙ p.0) (λ (e : i ≡ n → ⊥). below_at n i p.1 (omega (arith, e))) (cases_eq i n)

  or_false : (b : Bool) → (b || false) ≡ b
  or_false true = refl
  or_false false = refl

  -- where it holds of no other
  pub below_only : (n k : ℕ) → k < n → ((i : ℕ) → i < n → (i ≡ k → ⊥) → f i ≡ false) → any_below f n ≡ f k
  unfolding any_below
  below_only zero k l h = absurd (omega arith)
  below_only (suc n) k l h = ⊎_elim
      (λ (e : k ≡ n). ap (λ b. f n || b) (below_none n (λ i m. h i (omega arith) (λ z. omega (arith, z)))) ∙ or_false (f n) ∙ sym (ap f e))
      (λ (e : k ≡ n → ⊥). ap (λ b. b || any_below f n) (h n (omega arith) (λ z. e (sym z))) ∙ below_only n k (omega (arith, e)) (λ i m. h i (omega arith)))
      (cases_eq k n)
