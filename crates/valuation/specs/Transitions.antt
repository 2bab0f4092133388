-- Where a state can go: by a move with its outcomes, or by a delay.
use Rattle.std.specs.Prelude.{ℕ, List}

pub record Outcome (S : Type 0) : Type 0 where
  pub weight : ℕ
  pub to : S

pub data Transition (S : Type 0) : Type 0 where
  move : (a : ℕ) (args : List ℕ) (outs : List (Outcome S)) → Transition S
  wait : (rate : ℕ) (to : S) → Transition S
