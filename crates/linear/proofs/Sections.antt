-- A loop that reads one summand after another into a list. Assumes nothing.
use Rattle.std.proofs.Common.{◌≡◌, ℕ, suc, ◌+◌, ◌-◌, ◌<◌, Bool, true, cond, List, [], ◌∷◌, ◌++◌, Ok, Err, Result, sym, ap, ◌∙◌, arith}
use Rattle.linear.specs.Equations.{Summand}
use Rattle.linear.specs.Faults.{at, head}
use Rattle.linear.specs.Reading.{then, summand_in, summand_end, summands_from, word_in, kept_from}
use Rattle.linear.specs.declared.fault.Group.{Group}
use Rattle.linear.specs.declared.fault.Place.{Place}
use Rattle.linear.specs.declared.fault.LinearFault.{LinearFault}
use Rattle.linear.specs.declared.fault.LinearFault.TheVariants.{Limit}

module _ {D : Type 0} (does_in : List ℕ → Place → ℕ → Result D LinearFault) (does_words : D → List ℕ) (bs : List ℕ) (v : ℕ) (g : Group) where
  abbrev from : ℕ → ℕ → ℕ → List (Summand D) → Result (List (Summand D) × ℕ) LinearFault
  from = summands_from does_in does_words bs v g

  from_next : (n k p : ℕ) (ss : List (Summand D)) → k < n → from (n - k) k p ss ≡ then (summand_in does_in does_words bs v (at g k) p) (λ s. from (n - (k + 1)) (k + 1) (summand_end does_in does_words v p s) (ss ++ (s ∷ [])))
  from_next n k p ss lt = let e : n - k ≡ suc (n - (k + 1)) = omega arith in ap (λ m. from m k p ss) e

  -- the list with one summand more is what was to be read
  pub summands_more : (n k p q : ℕ) (ss : List (Summand D)) (s : Summand D) → k < n → Ok s ≡ summand_in does_in does_words bs v (at g k) p → q ≡ summand_end does_in does_words v p s → from (n - (k + 1)) (k + 1) q (ss ++ (s ∷ [])) ≡ from (n - k) k p ss
  summands_more n k p q ss s lt is end =
      let rest : Summand D → Result (List (Summand D) × ℕ) LinearFault = λ y. from (n - (k + 1)) (k + 1) (summand_end does_in does_words v p y) (ss ++ (y ∷ [])) in
      ap (λ e. from (n - (k + 1)) (k + 1) e (ss ++ (s ∷ []))) end ∙ ap (λ r. then r rest) is ∙ sym (from_next n k p ss lt)

  -- a summand that is refused is the first fault
  pub summands_stop : (n k p : ℕ) (ss : List (Summand D)) (x : LinearFault) → k < n → Err x ≡ summand_in does_in does_words bs v (at g k) p → from (n - k) k p ss ≡ Err x
  summands_stop n k p ss x lt is =
      from_next n k p ss lt ∙ sym (ap (λ r. then r (λ s. from (n - (k + 1)) (k + 1) (summand_end does_in does_words v p s) (ss ++ (s ∷ [])))) is)

module _ (rule : ℕ → ℕ → Bool) (bs : List ℕ) where
  abbrev next : ℕ → ℕ → ℕ → List ℕ → ℕ → Result (List ℕ) LinearFault
  next n k p xs w = cond (rule k w) (kept_from rule bs (n - (k + 1)) (k + 1) (p + 2) (xs ++ (w ∷ []))) (Err (Limit head))

  kept_next : (n k p : ℕ) (xs : List ℕ) → k < n → kept_from rule bs (n - k) k p xs ≡ then (word_in bs head p) (next n k p xs)
  kept_next n k p xs lt = let e : n - k ≡ suc (n - (k + 1)) = omega arith in ap (λ m. kept_from rule bs m k p xs) e

  pub kept_more : (n k p : ℕ) (xs : List ℕ) (w : ℕ) → k < n → Ok w ≡ word_in bs head p → rule k w ≡ true → kept_from rule bs (n - (k + 1)) (k + 1) (p + 2) (xs ++ (w ∷ [])) ≡ kept_from rule bs (n - k) k p xs
  kept_more n k p xs w lt is ok =
      sym (ap (λ b. cond b (kept_from rule bs (n - (k + 1)) (k + 1) (p + 2) (xs ++ (w ∷ []))) (Err (Limit head))) ok)
      ∙ ap (λ r. then r (next n k p xs)) is
      ∙ sym (kept_next n k p xs lt)
