-- What a trail holds: the row of its present state, and the steps with the row before each, the oldest first.
use Rattle.std.specs.Prelude.{ℕ, List, []}
use Rattle.system.specs.Questions.{rate}
use Rattle.system.specs.declared.answers.Step.TheVariants.{Waited}
use Rattle.system.specs.declared.trail.Taken.{Taken}

pub record Held : Type 0 where
  pub here : List ℕ
  pub past : List Taken

-- a place past all others
abbrev pub no_place : Taken
no_place = record { step = Waited (rate 0); from = [] }
