-- Records that are read one after another into a list. Assumes nothing.
use Rattle.std.proofs.Common.{◌≡◌, ℕ, zero, suc, ◌+◌, ◌-◌, ◌<◌, Bool, true, List, [], ◌∷◌, ◌++◌, length, get_or, IfOk, Ok, Err, Result, sym, refl, ap, ◌∙◌, subst, ⊎_elim, add-zero, add-one, arith}
use Rattle.std.proofs.Math.Seq.{get_or-append_seam}
use Rattle.std.proofs.lemmas.Bool.{and_parts, and_from, cases_eq}
use Rattle.std.proofs.lemmas.List.{get_or_append_left, length-append}
use Rattle.language.specs.Files.{then, rows_from, every}
use Rattle.language.specs.declared.fault.DataFault.{DataFault}

module _ {X : Type 0} (get : ℕ → Result X DataFault) where
  rows_next : (n k : ℕ) (xs : List X) → k < n → rows_from get (n - k) k xs ≡ then (get k) (λ x. rows_from get (n - (k + 1)) (k + 1) (xs ++ (x ∷ [])))
  rows_next n k xs lt =
      let e : n - k ≡ suc (n - (k + 1)) = omega arith in
      ap (λ m. rows_from get m k xs) e

  -- the list with one record more stands for what was to be read
  pub rows_more : (n k : ℕ) (xs : List X) (x : X) → k < n → get k ≡ Ok x → rows_from get (n - (k + 1)) (k + 1) (xs ++ (x ∷ [])) ≡ rows_from get (n - k) k xs
  rows_more n k xs x lt is =
      sym (rows_next n k xs lt ∙ ap (λ r. then r (λ y. rows_from get (n - (k + 1)) (k + 1) (xs ++ (y ∷ [])))) is)

  -- a record that is refused is the first fault
  pub rows_stop : (n k : ℕ) (xs : List X) (x : DataFault) → k < n → get k ≡ Err x → rows_from get (n - k) k xs ≡ Err x
  rows_stop n k xs x lt is =
      rows_next n k xs lt ∙ ap (λ r. then r (λ y. rows_from get (n - (k + 1)) (k + 1) (xs ++ (y ∷ [])))) is

-- what holds of each number below n holds of one
pub every_at : (p : ℕ → Bool) (n e : ℕ) → every p n ≡ true → e < n → p e ≡ true
every_at p zero e h lt = absurd (omega arith)
every_at p (suc n) e h lt =
    let parts = and_parts (every p n) (p n) h in
    ⊎_elim (λ (same : e ≡ n). rw same parts.1) (λ other. every_at p n e parts.0 (omega arith)) (cases_eq e n)

pub every_same : (p q : ℕ → Bool) (n : ℕ) → ((k : ℕ) → k < n → p k ≡ q k) → every p n ≡ every q n
every_same p q zero same = refl
every_same p q (suc n) same =
    let before = every_same p q n (λ k lt. same k (omega arith)) in
    let here = same n (omega arith) in
    cc

-- records that each keep a rule
module _ {X : Type 0} (rule : ℕ → X → Bool) (d : X) where
  abbrev pub Ruled : ℕ → List X → Type 0
  Ruled n xs = (length xs ≡ n) × (every (λ i. rule i (get_or xs i d)) n ≡ true)

  ruled_more : (n : ℕ) (xs : List X) (x : X) → rule n x ≡ true → Ruled n xs → Ruled (n + 1) (xs ++ (x ∷ []))
  ruled_more n xs x here (long, before) =
      let last : rule n (get_or (xs ++ (x ∷ [])) n d) ≡ true = rw (← long) (ap (rule (length xs)) (get_or-append_seam xs x [] d) ∙ rw long here) in
      let others = every_same (λ i. rule i (get_or (xs ++ (x ∷ [])) i d)) (λ i. rule i (get_or xs i d)) n (λ i lt. ap (rule i) (get_or_append_left xs (x ∷ []) d i (omega arith))) in (
        length-append xs (x ∷ []) ∙ ap (λ m. m + 1) long,
        rw add-one (and_from (every (λ i. rule i (get_or (xs ++ (x ∷ [])) i d)) n) (rule n (get_or (xs ++ (x ∷ [])) n d)) (others ∙ before) last),
      )

  module _ (get : ℕ → Result X DataFault) (one : (k : ℕ) → IfOk (get k) (λ x. rule k x ≡ true)) where
    -- record k, where the others are given
    next : (n k : ℕ) (xs : List X) (r : Result X DataFault) → IfOk r (λ x. rule k x ≡ true) → Ruled k xs
        → ((ys : List X) → Ruled (k + 1) ys → IfOk (rows_from get n (k + 1) ys) (Ruled (k + 1 + n))) → IfOk (then r (λ x. rows_from get n (k + 1) (xs ++ (x ∷ [])))) (Ruled (k + suc n))
    next n k xs (Err e) here before others = tt
    next n k xs (Ok x) here before others =
        subst (λ m. IfOk (rows_from get n (k + 1) (xs ++ (x ∷ []))) (Ruled m)) (omega arith) (others (xs ++ (x ∷ [])) (ruled_more k xs x here before))

    pub rows_ruled : (n k : ℕ) (xs : List X) → Ruled k xs → IfOk (rows_from get n k xs) (Ruled (k + n))
    rows_ruled zero k xs before = subst (λ m. Ruled m xs) (sym (add-zero k)) before
    rows_ruled (suc n) k xs before = next n k xs (get k) (one k) before (λ ys. rows_ruled n (k + 1) ys)
