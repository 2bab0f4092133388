-- The course that a trail holds: rows whose first words are states, and the steps, the oldest first.
-- Called: what a call on a walk answers, and the walk after it.
use Rattle.std.specs.Prelude.{◌≡◌, ℕ, List, map, reverse, take, Ok, Err, Result}
use Rattle.system.specs.Systems.{Delay, Meaning}
use Rattle.system.specs.Walks.{Passed, Course, Next, call_answer, call_course}
use Rattle.system.specs.declared.answers.Call.{Call}
use Rattle.system.specs.declared.refusal.Refusal.{Refusal}
use Rattle.system.specs.declared.rows.Ahead.{Ahead}
use Rattle.system.specs.declared.trail.Taken.{Taken}
use Rattle.system.specs.declared.trail.Trail.{Trail}

-- what a step stands for, with a row whose first w words count
abbrev pub passed : ℕ → Taken → Passed
passed w t = record { step = t.step; from = take w t.from }

abbrev pub course : ℕ → Trail → Course
course w t = record { here = take w t.here; past = reverse (map (passed w) t.past) }

-- where a row's first w words lead
abbrev pub seen : ℕ → Result Ahead Refusal → Result Next Refusal
seen w (Ok a) = Ok (record { step = a.step; target = take w a.row })
seen w (Err e) = Err e

pub record Called (m : Meaning) (delays : List ℕ → List Delay) (call : Call) (before after : Trail) (r : Result Unit Refusal) : Type 0 where
  pub answer : r ≡ call_answer m delays call (course m.width before)
  pub leaves : course m.width after ≡ call_course m delays call (course m.width before)
