-- Flags set one after the other.
use Rattle.std.proofs.Common.{◌≡◌, ℕ, ◌+◌, ◌-◌, ◌<◌, ◌≤◌, Bool, true, false, ◌||◌, ltb, sym, refl, ap, ◌∙◌, arith}
use Rattle.std.proofs.lemmas.Bool.{lt-ltb}
use Rattle.model_rules.specs.Tallies.{one, total}
use Rattle.model_rules.proofs.Firsts.{total_here}

hit_or : (b : Bool) (r : ℕ) → ltb 0 (one b + r) ≡ (b || ltb 0 r)
hit_or true r = lt-ltb 0 (1 + r) (omega arith)
hit_or false r = ap (ltb 0) (let q : 0 + r ≡ r = omega arith in q)

turn_or : (f h r : Bool) → (f || (h || r)) ≡ ((h || f) || r)
turn_or true true r = refl
turn_or true false r = refl
turn_or false true r = refl
turn_or false false r = refl

-- what is flagged, and what records from i on would flag
module _ (hit : ℕ → Bool) (k : ℕ) where
  abbrev ahead : ℕ → Bool
  ahead i = ltb 0 (total (λ j. one (hit j)) (k - i) i)

  pub marks_on : (i : ℕ) (f g all : Bool) → i < k → (f || ahead i) ≡ all → g ≡ (hit i || f) → (g || ahead (i + 1)) ≡ all
  marks_on i f g all l h e =
      ap (λ b. b || ahead (i + 1)) e ∙ sym (turn_or f (hit i) (ahead (i + 1)))
      ∙ ap (λ b. f || b) (sym (hit_or (hit i) (total (λ j. one (hit j)) (k - (i + 1)) (i + 1))) ∙ ap (ltb 0) (sym (total_here (λ j. one (hit j)) k i l))) ∙ h

  or_false : (b : Bool) → (b || false) ≡ b
  or_false true = refl
  or_false false = refl

  pub marks_end : (i : ℕ) (f all : Bool) → k ≤ i → (f || ahead i) ≡ all → f ≡ all
  marks_end i f all l h = let q : k - i ≡ 0 = omega arith in sym (or_false f) ∙ sym (ap (λ m. f || ltb 0 (total (λ j. one (hit j)) m i)) q) ∙ h

  pub marks_start : (f : Bool) → f ≡ false → (f || ahead 0) ≡ ltb 0 (total (λ j. one (hit j)) k 0)
  marks_start f z = let q : k - 0 ≡ k = omega arith in ap (λ b. b || ahead 0) z ∙ ap (λ m. ltb 0 (total (λ j. one (hit j)) m 0)) q
