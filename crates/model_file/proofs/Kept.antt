-- A section has no fault just where its count and each of its records keep their limits. Assumes nothing.
use Rattle.std.proofs.Common.{◌≡◌, ℕ, zero, suc, ◌+◌, ◌*◌, ◌<◌, ◌≤◌, Bool, true, false, cond, ◌&&◌, ltb, leb, List, length, Ok, Err, Result, refl, ap, ◌∙◌, add-zero, mul-zero, mul-suc, arith}
use Rattle.std.proofs.lemmas.Bool.{le-ltb, leb-true, le-leb, and_parts, and_from, false≢true, true≢false}
use Rattle.words.specs.Words.{word_at}
use Rattle.model_file.specs.declared.fault.ModelFault.{ModelFault}
use Rattle.model_file.specs.declared.fault.ModelFault.TheVariants.{Cut, Limit}
use Rattle.model_file.specs.declared.part.Part.{Part}
use Rattle.model_file.specs.Faults.{and_then}
use Rattle.model_file.specs.Limits.{Between}
use Rattle.model_file.specs.Sections.{width, section_of, place_of, fewest, most, keeps, record_fault, records_fault, section_fault}

err_not_ok : {X E : Type 0} {e : E} {x : X} → ◌≡◌ {A = Result X E} (Err e) (Ok x) → ⊥
err_not_ok h = cc

pub and_then_ok : {X Y : Type 0} (r : Result X ModelFault) (go : X → Result Y ModelFault) {y : Y} → and_then r go ≡ Ok y → (x : X) × (r ≡ Ok x) × (go x ≡ Ok y)
and_then_ok (Ok x) go h = (x, refl, h)
and_then_ok (Err e) go h = absurd (err_not_ok h)

pub and_then_made : {X Y : Type 0} (r : Result X ModelFault) (go : X → Result Y ModelFault) {x : X} {y : Y} → r ≡ Ok x → go x ≡ Ok y → and_then r go ≡ Ok y
and_then_made r go e h = ap (λ q. and_then q go) e ∙ h

-- no fault under a test
pub unless_ok : {X : Type 0} (b : Bool) (r : Result X ModelFault) (e : ModelFault) {x : X} → cond b (Err e) r ≡ Ok x → (b ≡ false) × (r ≡ Ok x)
unless_ok true r e h = absurd (err_not_ok h)
unless_ok false r e h = (refl, h)

pub when_ok : {X : Type 0} (b : Bool) (r : Result X ModelFault) (e : ModelFault) {x : X} → cond b r (Err e) ≡ Ok x → (b ≡ true) × (r ≡ Ok x)
when_ok true r e h = (refl, h)
when_ok false r e h = absurd (err_not_ok h)

pub unless_made : {X : Type 0} (b : Bool) (r : Result X ModelFault) (e : ModelFault) {x : X} → b ≡ false → r ≡ Ok x → cond b (Err e) r ≡ Ok x
unless_made true r e p h = absurd (true≢false p)
unless_made false r e p h = h

pub when_made : {X : Type 0} (b : Bool) (r : Result X ModelFault) (e : ModelFault) {x : X} → b ≡ true → r ≡ Ok x → cond b r (Err e) ≡ Ok x
when_made true r e p h = h
when_made false r e p h = absurd (false≢true p)

module _ (bs : List ℕ) (part : Part) where
  abbrev pub KeptFrom : ℕ → ℕ → ℕ → Type 0
  KeptFrom k i p = (j : ℕ) → j < k → keeps bs part (p + width part * j) (i + j) ≡ true

  pub records_kept : (k i p : ℕ) → records_fault bs part k i p ≡ Ok tt → KeptFrom k i p
  records_kept zero i p h j low = absurd (omega arith)
  records_kept (suc k) i p h zero low =
      let one = and_then_ok (record_fault bs part p i) (λ _. records_fault bs part k (i + 1) (p + width part)) h in
      let fits = unless_ok (ltb (length bs) (p + width part)) (cond (keeps bs part p i) (Ok tt) (Err (Limit (section_of part) (place_of part i)))) (Cut (section_of part) (place_of part i)) one.1 in
      let kept = when_ok (keeps bs part p i) (Ok tt) (Limit (section_of part) (place_of part i)) fits.1 in
      let z : p + width part * 0 ≡ p = ap (λ n. p + n) (mul-zero (width part)) ∙ add-zero p in
      let y : i + 0 ≡ i = add-zero i in
      let got = kept.0 in
      cc
  records_kept (suc k) i p h (suc j) low =
      let one = and_then_ok (record_fault bs part p i) (λ _. records_fault bs part k (i + 1) (p + width part)) h in
      let later = records_kept k (i + 1) (p + width part) one.2 j (omega arith) in
      let z : p + width part * suc j ≡ (p + width part) + width part * j = omega (arith, mul-suc (width part) j) in
      let y : i + suc j ≡ (i + 1) + j = omega arith in
      cc

  pub records_made : (k i p : ℕ) → p + width part * k ≤ length bs → KeptFrom k i p → records_fault bs part k i p ≡ Ok tt
  records_made zero i p fit kept = refl
  records_made (suc k) i p fit kept =
      let m = mul-suc (width part) k in
      let here : keeps bs part p i ≡ true =
      let k0 = kept 0 (omega arith) in
      let z : p + width part * 0 ≡ p = ap (λ n. p + n) (mul-zero (width part)) ∙ add-zero p in
      let y : i + 0 ≡ i = add-zero i in
      cc in
      let fits : ltb (length bs) (p + width part) ≡ false = le-ltb _ _ (omega arith) in
      let one : record_fault bs part p i ≡ Ok tt = unless_made (ltb (length bs) (p + width part)) (cond (keeps bs part p i) (Ok tt) (Err (Limit (section_of part) (place_of part i)))) (Cut (section_of part) (place_of part i)) fits (when_made (keeps bs part p i) (Ok tt) (Limit (section_of part) (place_of part i)) here refl) in
      and_then_made (record_fault bs part p i) (λ _. records_fault bs part k (i + 1) (p + width part)) one
      (records_made k (i + 1) (p + width part) (omega arith) (λ j low.
      let later = kept (suc j) (omega arith) in
      let z : p + width part * suc j ≡ (p + width part) + width part * j = omega (arith, mul-suc (width part) j) in
      let y : i + suc j ≡ (i + 1) + j = omega arith in
      cc))

  pub record Kept (p : ℕ) : Type 0 where
    pub count : Between (fewest part) (most part) (word_at bs p)
    pub records : KeptFrom (word_at bs p) 0 (p + 2)

  abbrev within : ℕ → Bool
  within p = leb (fewest part) (word_at bs p) && leb (word_at bs p) (most part)

  abbrev inside : ℕ → Result (Unit {0}) ModelFault
  inside p = records_fault bs part (word_at bs p) 0 (p + 2)

  pub section_kept : (p : ℕ) → section_fault bs part p ≡ Ok tt → Kept p
  section_kept p h =
      let one = unless_ok (ltb (length bs) (p + 2)) (cond (within p) (inside p) (Err (Limit (section_of part) 0))) (Cut (section_of part) 0) h in
      let two = when_ok (within p) (inside p) (Limit (section_of part) 0) one.1 in
      let limits = and_parts (leb (fewest part) (word_at bs p)) (leb (word_at bs p) (most part)) two.0 in
      record { count = (leb-true (fewest part) (word_at bs p) limits.0, leb-true (word_at bs p) (most part) limits.1); records = records_kept (word_at bs p) 0 (p + 2) two.1 }

  pub section_made : (p : ℕ) → p + 2 + width part * word_at bs p ≤ length bs → Kept p → section_fault bs part p ≡ Ok tt
  section_made p fit kept =
      unless_made (ltb (length bs) (p + 2)) (cond (within p) (inside p) (Err (Limit (section_of part) 0))) (Cut (section_of part) 0) (le-ltb (length bs) (p + 2) (omega arith))
      (when_made (within p) (inside p) (Limit (section_of part) 0)
      (and_from _ _ (le-leb (fewest part) (word_at bs p) kept.count.0) (le-leb (word_at bs p) (most part) kept.count.1))
      (records_made (word_at bs p) 0 (p + 2) fit kept.records))
