-- What each question answers, by a system's lists: NAME_answer is the answer of the question NAME.
-- Refusals come in the order buffer, state, move or delay, outcome.
use Rattle.std.specs.Prelude.{ℕ, ◌-◌, Bool, cond, List, [], ◌++◌, length, take, replicate, Some, None, Ok, Err, Option, Result, ◌==◌}
use Rattle.std.specs.List.{slice_get}
use Rattle.system.specs.Systems.{widest, Move, Outcome, Delay, Meaning}
use Rattle.system.specs.declared.answers.Label.{Label}
use Rattle.system.specs.declared.answers.Weight.{Weight}
use Rattle.system.specs.declared.answers.Rate.{Rate}
use Rattle.system.specs.declared.refusal.Refusal.{Refusal}
use Rattle.system.specs.declared.refusal.Refusal.TheVariants.{OutsideSet, NoMove, NoOutcome, WrongBuffer}

-- what an entry that is there answers, or else the refusal e
abbrev pub found : {X Y : Type 0} → Option X → Refusal → (X → Result Y Refusal) → Result Y Refusal
found None e f = Err e
found (Some x) e f = f x

-- what a state of the set answers
abbrev pub within : {Y : Type 0} → Bool → Result Y Refusal → Result Y Refusal
within member r = cond member r (Err OutsideSet)

-- what a buffer of the width answers
abbrev pub fitting : {Y : Type 0} → Meaning → List ℕ → Result Y Refusal → Result Y Refusal
fitting m buffer r = cond (length buffer == m.width) r (Err WrongBuffer)

-- a buffer after an answer: the target, or as it was at a refusal
abbrev pub put : {X : Type 0} → Result X Refusal → List ℕ → List ℕ → List ℕ
put (Ok x) target before = target
put (Err e) target before = before

-- a list of at most 4 values in an array of 4, the rest 0
abbrev pub padded : List ℕ → List ℕ
padded xs = take 4 (xs ++ replicate 4 0)

abbrev pub label_of : Move → Label
label_of v = record { action = v.action; count = length v.arguments; values = padded v.arguments }

abbrev pub weight : ℕ → Weight
weight w = record { 0 = w }

abbrev pub rate : ℕ → Rate
rate r = record { 0 = r }

abbrev pub first_answer : Meaning → List ℕ → Result Unit Refusal
first_answer m buffer = fitting m buffer (Ok tt)

abbrev pub move_count_answer : Meaning → List ℕ → Result ℕ Refusal
move_count_answer m x = within (m.member x) (Ok (length (m.moves x)))

abbrev pub label_answer : Meaning → List ℕ → ℕ → Result Label Refusal
label_answer m x k = within (m.member x) (found (slice_get (m.moves x) k) NoMove (λ v. Ok (label_of v)))

abbrev pub outcome_count_answer : Meaning → List ℕ → ℕ → Result ℕ Refusal
outcome_count_answer m x k = within (m.member x) (found (slice_get (m.moves x) k) NoMove (λ v. Ok (length v.outcomes)))

abbrev pub outcome_answer : Meaning → List ℕ → ℕ → ℕ → List ℕ → Result Weight Refusal
outcome_answer m x k n buffer = fitting m buffer (within (m.member x) (found (slice_get (m.moves x) k) NoMove (λ v. found (slice_get v.outcomes n) NoOutcome (λ o. Ok (weight o.weight)))))

abbrev pub outcomes_at : Option Move → List Outcome
outcomes_at None = []
outcomes_at (Some v) = v.outcomes

abbrev pub target_at : Option Outcome → List ℕ
target_at None = []
target_at (Some o) = o.target

-- the target of outcome n of move k
abbrev pub outcome_target : Meaning → List ℕ → ℕ → ℕ → List ℕ
outcome_target m x k n = target_at (slice_get (outcomes_at (slice_get (m.moves x) k)) n)

abbrev pub delay_count_answer : Meaning → (List ℕ → List Delay) → List ℕ → Result ℕ Refusal
delay_count_answer m ds x = within (m.member x) (Ok (length (ds x)))

abbrev pub delay_answer : Meaning → (List ℕ → List Delay) → List ℕ → ℕ → List ℕ → Result Rate Refusal
delay_answer m ds x k buffer = fitting m buffer (within (m.member x) (found (slice_get (ds x) k) NoMove (λ d. Ok (rate d.rate))))

abbrev pub delay_target_at : Option Delay → List ℕ
delay_target_at None = []
delay_target_at (Some d) = d.target

-- the target of delay k
abbrev pub delay_target : (List ℕ → List Delay) → List ℕ → ℕ → List ℕ
delay_target ds x k = delay_target_at (slice_get (ds x) k)

-- the first state in a row of words, 0 after it
abbrev pub first_row_of : Meaning → List ℕ
first_row_of m = m.start ++ replicate (widest - m.width) 0

abbrev pub no_outcome : Outcome
no_outcome = record { weight = 0; target = [] }

abbrev pub no_move : Move
no_move = record { action = 0; arguments = []; outcomes = [] }
