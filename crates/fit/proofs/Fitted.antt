-- What the clauses of fitting say together.
use Rattle.std.proofs.Common.{◌≡◌, ℕ, zero, suc, ◌+◌, ◌-◌, ◌<◌, ◌≤◌, Bool, true, false, cond, List, length, is_ok, Ok, Err, Result, sym, refl, ap, ◌∙◌, subst, ⊎_elim, arith}
use Rattle.std.proofs.lemmas.Bool.{cases_eq}
use Rattle.words.specs.Headers.{Iff}
use Rattle.language.specs.Meanings.{Meaning, Lawful}
use Rattle.model.specs.Accept.{judged}
use Rattle.model.specs.Flat.{Flat, flat}
use Rattle.source.specs.Models.{model_of}
use Rattle.source.specs.Sound.{Fits}
use Rattle.source.proofs.Flats.{node_number}
use Rattle.fit.specs.declared.fault.FitFault.{FitFault}
use Rattle.fit.specs.declared.fault.FitFault.TheVariants.{Expression, Variable}
use Rattle.fit.specs.Fitting.{beyond_at, stray_at, fault_from, fit_of}
use Rattle.fit.specs.InWords.{Suits}
use Rattle.fit.proofs.Scoped.{Fine, fine_fits, fits_fine}
use Rattle.fit.proofs.Words.{in_words}

-- the node that comes next of those that are left
module _ (L : Meaning) (g : Flat) (n k : ℕ) (r : Result (Unit {0}) FitFault) where
  step : k < n → fault_from L g (n - k) k ≡ cond (beyond_at L.count g k) (Err (Expression k)) (cond (stray_at L g k) (Err (Variable k)) (fault_from L g (n - (k + 1)) (k + 1)))
  step l = let q : n - k ≡ suc (n - (k + 1)) = omega arith in ap (λ m. fault_from L g m k) q

  pub fault_beyond : k < n → true ≡ beyond_at L.count g k → fault_from L g (n - k) k ≡ r → Err (Expression k) ≡ r
  fault_beyond l b h = ap (λ t. cond t (Err (Expression k)) (cond (stray_at L g k) (Err (Variable k)) (fault_from L g (n - (k + 1)) (k + 1)))) b ∙ sym (step l) ∙ h

  pub fault_stray : k < n → false ≡ beyond_at L.count g k → true ≡ stray_at L g k → fault_from L g (n - k) k ≡ r → Err (Variable k) ≡ r
  fault_stray l b s h =
      ap (λ t. cond t (Err (Variable k)) (fault_from L g (n - (k + 1)) (k + 1))) s
      ∙ ap (λ t. cond t (Err (Expression k)) (cond (stray_at L g k) (Err (Variable k)) (fault_from L g (n - (k + 1)) (k + 1)))) b ∙ sym (step l) ∙ h

  pub fault_later : k < n → false ≡ beyond_at L.count g k → false ≡ stray_at L g k → fault_from L g (n - k) k ≡ r → fault_from L g (n - (k + 1)) (k + 1) ≡ r
  fault_later l b s h =
      ap (λ t. cond t (Err (Variable k)) (fault_from L g (n - (k + 1)) (k + 1))) s
      ∙ ap (λ t. cond t (Err (Expression k)) (cond (stray_at L g k) (Err (Variable k)) (fault_from L g (n - (k + 1)) (k + 1)))) b ∙ sym (step l) ∙ h

  pub fault_none : n ≤ k → fault_from L g (n - k) k ≡ r → Ok tt ≡ r
  fault_none l h = let q : n - k ≡ 0 = omega arith in sym (ap (λ m. fault_from L g m k) q) ∙ h

-- no fault, just where no node has one
ok_apart : (e : FitFault) → ◌≡◌ {A = Result (Unit {0}) FitFault} (Err e) (Ok tt) → ⊥
ok_apart e h = let z : ◌≡◌ {A = ℕ} 0 1 = cc in omega arith

module _ (L : Meaning) (g : Flat) where
  ok_fine : (n k : ℕ) → fault_from L g n k ≡ Ok tt → (i : ℕ) → k ≤ i → i < k + n → Fine L g i
  ok_fine zero k h i a b = absurd (omega arith)
  ok_fine (suc n) k h i a b = go (beyond_at L.count g k) (stray_at L g k) refl refl h (λ e ne. ok_fine n (k + 1) e i (omega (arith, ne)) (omega arith))
    where
      go : (p q : Bool) → beyond_at L.count g k ≡ p → stray_at L g k ≡ q → cond p (Err (Expression k)) (cond q (Err (Variable k)) (fault_from L g n (k + 1))) ≡ Ok tt
          → (fault_from L g n (k + 1) ≡ Ok tt → (i ≡ k → ⊥) → Fine L g i) → Fine L g i
      go true q x y e rest = absurd (ok_apart (Expression k) e)
      go false true x y e rest = absurd (ok_apart (Variable k) e)
      go false false x y e rest = ⊎_elim (λ (z : i ≡ k). subst (Fine L g) (sym z) (x, y)) (rest e) (cases_eq i k)

  fine_ok : (n k : ℕ) → ((i : ℕ) → k ≤ i → i < k + n → Fine L g i) → fault_from L g n k ≡ Ok tt
  fine_ok zero k h = refl
  fine_ok (suc n) k h =
      let f = h k (omega arith) (omega arith) in
      ap (λ b. cond b (Err (Expression k)) (cond (stray_at L g k) (Err (Variable k)) (fault_from L g n (k + 1)))) f.0
      ∙ ap (λ b. cond b (Err (Variable k)) (fault_from L g n (k + 1))) f.1
      ∙ fine_ok n (k + 1) (λ i a b. h i (omega arith) (omega arith))

pub record Fitted (L : Meaning) (bs : List ℕ) (r : Result (Unit {0}) FitFault) : Type 0 where
  pub answer : r ≡ fit_of L (flat bs)
  pub rules : Iff (r ≡ Ok tt) (Suits L (model_of (flat bs)))
  pub fitting : Iff (r ≡ Ok tt) (Fits L (model_of (flat bs)))

module _ (L : Meaning) (law : Lawful L) (bs : List ℕ) (lawful : is_ok (judged bs) ≡ true) where
  abbrev K : ℕ
  K = length (flat bs).nodes

  ok_fits : fit_of L (flat bs) ≡ Ok tt → Fits L (model_of (flat bs))
  ok_fits h = fine_fits L law bs lawful (λ n low. ok_fine L (flat bs) K 0 h n (omega arith) (omega (arith, node_number bs lawful)))

  fits_ok : Fits L (model_of (flat bs)) → fit_of L (flat bs) ≡ Ok tt
  fits_ok f = fine_ok L (flat bs) K 0 (λ n a b. fits_fine L law bs lawful f n (omega (arith, node_number bs lawful)))

  pub fitted : (r : Result (Unit {0}) FitFault) → r ≡ fit_of L (flat bs) → Fitted L bs r
  fitted r e =
      let words = in_words L (model_of (flat bs)) in
      record {
        answer = e;
        rules = ((λ h. words.0 (ok_fits (sym e ∙ h))), (λ s. e ∙ fits_ok (words.1 s)));
        fitting = ((λ h. ok_fits (sym e ∙ h)), (λ f. e ∙ fits_ok f));
      }
