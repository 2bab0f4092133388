-- What a question that was answered says of the lists.
use Rattle.std.proofs.Common.{◌≡◌, ℕ, ◌-◌, ◌<◌, ◌≤◌, true, List, [], ◌++◌, length, get_or, take, drop, replicate, Ok, Err, Result, ap, ◌∙◌, arith, length-drop, length-take}
use Rattle.std.proofs.lemmas.List.{drop-replicate, drop_at, take-replicate, take_at}
use Rattle.std.proofs.lemmas.Bool.{eq-eqb}
use Rattle.std.proofs.lemmas.Option.{slice_get-get_or}
use Rattle.system.specs.Systems.{widest, Meaning, Sound, Outcome, Delay}
use Rattle.system.specs.Questions.{first_row_of, put, move_count_answer, outcome_count_answer, weight, outcome_answer, outcome_target, delay_answer, delay_target, no_outcome, no_move}
use Rattle.system.specs.declared.answers.Weight.{Weight}
use Rattle.system.specs.declared.answers.Rate.{Rate}
use Rattle.system.specs.declared.refusal.Refusal.{Refusal}

-- the front of a row, as code lends it
pub part_long : (row : List ℕ) (w v : ℕ) → w ≤ length row → w ≡ v → length (take (w - 0) (drop 0 row)) ≡ v
part_long row w v h e = simp (length-take, length-drop) (omega arith)

-- a row of 0s, lent in part
module _ (w v : ℕ) (low : w ≤ widest) (is : w ≡ v) where
  pub front_zeros : take (w - 0) (drop 0 (replicate {A = ℕ} widest 0)) ≡ replicate v 0
  front_zeros = let e : w - 0 ≡ v = omega arith in let h : v ≤ widest = omega arith in rw e (take-replicate v widest 0 h)

  pub rest_zeros : (front : List ℕ) → length front ≡ v → drop v (front ++ drop (w - 0) (replicate widest 0)) ≡ replicate {A = ℕ} (widest - v) 0
  rest_zeros front long = let e : w - 0 ≡ v = omega arith in drop_at front (drop (w - 0) (replicate widest 0)) v long ∙ rw (e, drop-replicate)

-- the front of the first row is the first state
pub first_front : (m : Meaning) (row : List ℕ) → Sound m → row ≡ first_row_of m → take m.width row ≡ m.start
first_front m row law e = ap (take m.width) e ∙ take_at m.start (replicate (widest - m.width) 0) m.width (law.sized m.start law.starts)

pub delay_put : (m : Meaning) (ds : List ℕ → List Delay) (x : List ℕ) (k : ℕ) (buffer after : List ℕ) (r : Result Rate Refusal) → r ≡ delay_answer m ds x k buffer → after ≡ put r (delay_target ds x k) buffer → length buffer ≡ m.width → m.member x ≡ true → k < length (ds x) → after ≡ delay_target ds x k
delay_put m ds x k buffer after r gives leaves long inside low =
    let e = eq-eqb _ _ long in
    let n = slice_get-get_or (ds x) k (record { rate = 0; target = [] }) low in
    leaves ∙ rw (gives, e, inside, n)

module _ (m : Meaning) (x : List ℕ) (k n : ℕ) (inside : m.member x ≡ true) (move : k < length (m.moves x)) (outcome : n < length (get_or (m.moves x) k no_move).outcomes) where
  abbrev asked : Outcome
  asked = get_or (get_or (m.moves x) k no_move).outcomes n no_outcome

  asked_ok : (buffer : List ℕ) → length buffer ≡ m.width → outcome_answer m x k n buffer ≡ Ok (weight asked.weight)
  asked_ok buffer long =
      let e = eq-eqb _ _ long in
      let a = slice_get-get_or (m.moves x) k no_move move in
      let b = slice_get-get_or (get_or (m.moves x) k no_move).outcomes n no_outcome outcome in
      rw (e, inside, a, b)

  asked_target : outcome_target m x k n ≡ asked.target
  asked_target =
      let a = slice_get-get_or (m.moves x) k no_move move in
      let b = slice_get-get_or (get_or (m.moves x) k no_move).outcomes n no_outcome outcome in
      rw (a, b)

  pub outcome_weight : (buffer : List ℕ) (w : Weight) → Ok w ≡ outcome_answer m x k n buffer → length buffer ≡ m.width → w.0 ≡ asked.weight
  outcome_weight buffer w e long =
      let f : ◌≡◌ {A = Result Weight Refusal} (Ok w) (Ok (weight asked.weight)) = e ∙ asked_ok buffer long in
      let h : w ≡ weight asked.weight = cc in
      ap (λ (y : Weight). y.0) h

  pub outcome_put : (buffer after : List ℕ) (r : Result Weight Refusal) → r ≡ outcome_answer m x k n buffer → after ≡ put r (outcome_target m x k n) buffer → length buffer ≡ m.width → after ≡ asked.target
  outcome_put buffer after r gives leaves long = leaves ∙ (let h = gives ∙ asked_ok buffer long in rw h asked_target)

  pub outcome_refused : (buffer : List ℕ) (y : Refusal) → Err y ≡ outcome_answer m x k n buffer → length buffer ≡ m.width → ⊥
  outcome_refused buffer y e long =
      let f : ◌≡◌ {A = Result Weight Refusal} (Err y) (Ok (weight asked.weight)) = e ∙ asked_ok buffer long in
      grind arith

pub moves_count : (m : Meaning) (x : List ℕ) (n : ℕ) → m.member x ≡ true → Ok n ≡ move_count_answer m x → n ≡ length (m.moves x)
moves_count m x n inside e = let f : ◌≡◌ {A = Result ℕ Refusal} (Ok n) (Ok (length (m.moves x))) = e ∙ rw inside in cc

pub outcomes_count : (m : Meaning) (x : List ℕ) (k n : ℕ) → m.member x ≡ true → k < length (m.moves x) → Ok n ≡ outcome_count_answer m x k → n ≡ length (get_or (m.moves x) k no_move).outcomes
outcomes_count m x k n inside low e =
    let a = slice_get-get_or (m.moves x) k no_move low in
    let f : ◌≡◌ {A = Result ℕ Refusal} (Ok n) (Ok (length (get_or (m.moves x) k no_move).outcomes)) = e ∙ rw (inside, a) in
    cc

pub outcomes_refused : (m : Meaning) (x : List ℕ) (k : ℕ) (y : Refusal) → m.member x ≡ true → k < length (m.moves x) → Err y ≡ outcome_count_answer m x k → ⊥
outcomes_refused m x k y inside low e =
    let a = slice_get-get_or (m.moves x) k no_move low in
    let f : ◌≡◌ {A = Result ℕ Refusal} (Err y) (Ok (length (get_or (m.moves x) k no_move).outcomes)) = e ∙ rw (inside, a) in
    grind arith
