-- What a system is: its states are lists of words, and each has a list of moves and a list of delays.
-- Sound, SoundDelays: what every system owes.
use Rattle.std.specs.Prelude.{◌≡◌, ℕ, ◌+◌, ◌^◌, ◌<◌, ◌≤◌, Bool, true, List, [], ◌∷◌, length}
use Rattle.std.specs.List.{AllByRecursion}

-- no count of moves, delays or outcomes passes it, and no total weight
abbrev pub ceiling : ℕ
ceiling = 2 ^ 24

abbrev pub widest : ℕ
widest = 64

pub record Outcome : Type 0 where
  pub weight : ℕ
  pub target : List ℕ

pub record Move : Type 0 where
  pub action : ℕ
  pub arguments : List ℕ
  pub outcomes : List Outcome

pub record Delay : Type 0 where
  pub rate : ℕ
  pub target : List ℕ

abbrev pub total : List Outcome → ℕ
total [] = 0
total (o ∷ os) = o.weight + total os

pub record FairMove (member : List ℕ → Bool) (v : Move) : Type 0 where
  pub action_low : v.action < 64
  pub arguments_few : length v.arguments ≤ 4
  pub outcomes_few : length v.outcomes ≤ ceiling
  pub positive : 0 < total v.outcomes
  pub total_low : total v.outcomes ≤ ceiling
  pub closed : AllByRecursion (λ (o : Outcome). member o.target ≡ true) v.outcomes

-- the lists of moves that matter are those of the states in the set
pub record Meaning : Type 0 where
  pub width : ℕ
  pub member : List ℕ → Bool
  pub start : List ℕ
  pub moves : List ℕ → List Move

pub record Sound (m : Meaning) : Type 0 where
  pub wide : 1 ≤ m.width
  pub narrow : m.width ≤ widest
  pub sized : (x : List ℕ) → m.member x ≡ true → length x ≡ m.width
  pub starts : m.member m.start ≡ true
  pub few : (x : List ℕ) → m.member x ≡ true → length (m.moves x) ≤ ceiling
  pub fair : (x : List ℕ) → m.member x ≡ true → AllByRecursion (FairMove m.member) (m.moves x)

pub record FairDelay (member : List ℕ → Bool) (d : Delay) : Type 0 where
  pub positive : 0 < d.rate
  pub closed : member d.target ≡ true

pub record SoundDelays (m : Meaning) (delays : List ℕ → List Delay) : Type 0 where
  pub few : (x : List ℕ) → m.member x ≡ true → length (delays x) ≤ ceiling
  pub fair : (x : List ℕ) → m.member x ≡ true → AllByRecursion (FairDelay m.member) (delays x)
