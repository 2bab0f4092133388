-- A walk: its present state, and its steps with the state before each, the newest first.
-- call_answer, call_course: what a call answers, and the walk after it.
use Rattle.std.specs.Prelude.{ℕ, cond, List, [], ◌∷◌, reverse, length, Ok, Err, Option, Result, ◌==◌, nat_lt}
use Rattle.std.specs.List.{slice_get}
use Rattle.system.specs.Systems.{Delay, Meaning}
use Rattle.system.specs.Questions.{found, within, label_of, rate}
use Rattle.system.specs.declared.answers.Step.{Step}
use Rattle.system.specs.declared.answers.Step.TheVariants.{Acted, Waited}
use Rattle.system.specs.declared.answers.Call.{Call}
use Rattle.system.specs.declared.answers.Call.TheVariants.{Act, Wait, Back, Restart}
use Rattle.system.specs.declared.refusal.Refusal.{Refusal}
use Rattle.system.specs.declared.refusal.Refusal.TheVariants.{NoMove, NoOutcome, TrailFull, TrailEmpty}

abbrev pub most_steps : ℕ
most_steps = 64

pub record Passed : Type 0 where
  pub step : Step
  pub from : List ℕ

pub record Course : Type 0 where
  pub here : List ℕ
  pub past : List Passed

abbrev pub fresh : List ℕ → Course
fresh x = record { here = x; past = [] }

-- the steps, the newest first
abbrev pub trail : List Passed → List Step
trail [] = []
trail (p ∷ ps) = p.step ∷ trail ps

-- step i, the oldest being 0
abbrev pub step_at : List Passed → ℕ → Option Step
step_at ps i = slice_get (reverse (trail ps)) i

-- a step and where it leads
pub record Next : Type 0 where
  pub step : Step
  pub target : List ℕ

-- where act leads from a state: an outcome of weight 0 is none
abbrev pub acting : Meaning → ℕ → ℕ → List ℕ → Result Next Refusal
acting m k n x =
    within (m.member x) (found (slice_get (m.moves x) k) NoMove (λ v. found (slice_get v.outcomes n) NoOutcome (λ o. cond (o.weight == 0) (Err NoOutcome) (Ok (record { step = Acted (label_of v) n; target = o.target })))))

-- where wait leads from a state
abbrev pub waiting : Meaning → (List ℕ → List Delay) → ℕ → List ℕ → Result Next Refusal
waiting m ds k x = within (m.member x) (found (slice_get (ds x) k) NoMove (λ d. Ok (record { step = Waited (rate d.rate); target = d.target })))

-- a step taken, unless the trail is full
abbrev pub step_answer : Result Next Refusal → Course → Result Unit Refusal
step_answer (Err e) c = Err e
step_answer (Ok s) c = cond (nat_lt (length c.past) most_steps) (Ok tt) (Err TrailFull)

abbrev pub pushed : Next → Course → Course
pushed s c = record { here = s.target; past = record { step = s.step; from = c.here } ∷ c.past }

abbrev pub step_course : Result Next Refusal → Course → Course
step_course (Err e) c = c
step_course (Ok s) c = cond (nat_lt (length c.past) most_steps) (pushed s c) c

abbrev pub back_answer : List Passed → Result Unit Refusal
back_answer [] = Err TrailEmpty
back_answer (p ∷ ps) = Ok tt

abbrev pub back_course : List Passed → Course → Course
back_course [] c = c
back_course (p ∷ ps) c = record { here = p.from; past = ps }

abbrev pub call_answer : Meaning → (List ℕ → List Delay) → Call → Course → Result Unit Refusal
call_answer m ds (Act k n) c = step_answer (acting m k n c.here) c
call_answer m ds (Wait k) c = step_answer (waiting m ds k c.here) c
call_answer m ds Back c = back_answer c.past
call_answer m ds Restart c = Ok tt

abbrev pub call_course : Meaning → (List ℕ → List Delay) → Call → Course → Course
call_course m ds (Act k n) c = step_course (acting m k n c.here) c
call_course m ds (Wait k) c = step_course (waiting m ds k c.here) c
call_course m ds Back c = back_course c.past c
call_course m ds Restart c = fresh m.start

-- the course after a list of calls, refused ones included
abbrev pub run : Meaning → (List ℕ → List Delay) → List Call → Course → Course
run m ds [] c = c
run m ds (k ∷ ks) c = run m ds ks (call_course m ds k c)

-- what each of them answers
abbrev pub run_answers : Meaning → (List ℕ → List Delay) → List Call → Course → List (Result Unit Refusal)
run_answers m ds [] c = []
run_answers m ds (k ∷ ks) c = call_answer m ds k c ∷ run_answers m ds ks (call_course m ds k c)

-- a new walk after a list of calls, and their answers
abbrev pub played : Meaning → (List ℕ → List Delay) → List Call → Course
played m ds calls = run m ds calls (fresh m.start)

abbrev pub played_answers : Meaning → (List ℕ → List Delay) → List Call → List (Result Unit Refusal)
played_answers m ds calls = run_answers m ds calls (fresh m.start)

-- a lent list once answers were put into it from its front: those past its end are let go, places past the answers stay
abbrev pub overlaid : {X : Type 0} → List X → List X → List X
overlaid [] before = before
overlaid (x ∷ xs) [] = []
overlaid (x ∷ xs) (y ∷ ys) = x ∷ overlaid xs ys
