-- A primary server with a standby: its states, moves and delays.
use Rattle.std.specs.Prelude.{ℕ, cond, ◌&&◌, List, [], ◌∷◌, length, is_some, Some, None, Option, ◌==◌, slice_index}
use Rattle.system.specs.Systems.{Move, Outcome, Delay, Meaning}
use Rattle.system_example.specs.declared.failover.Mode.{Mode}
use Rattle.system_example.specs.declared.failover.Mode.TheVariants.{Both, Standby, Neither}

abbrev pub words_of : Mode → List ℕ
words_of Both = 1 ∷ (1 ∷ [])
words_of Standby = 0 ∷ (1 ∷ [])
words_of Neither = 0 ∷ (0 ∷ [])

abbrev pub mode_at : ℕ → ℕ → Option Mode
mode_at p s = cond (p == 1 && s == 1) (Some Both) (cond (p == 0 && s == 1) (Some Standby) (cond (p == 0 && s == 0) (Some Neither) None))

abbrev pub mode_of : List ℕ → Option Mode
mode_of x = cond (length x == 2) (mode_at (slice_index x 0) (slice_index x 1)) None

abbrev pub to : ℕ → Mode → Outcome
to weight mode = record { weight = weight; target = words_of mode }

abbrev pub after : ℕ → Mode → Delay
after rate mode = record { rate = rate; target = words_of mode }

-- requests go to server 0, the primary, or 1, the standby
abbrev pub routing : ℕ → List Outcome → Move
routing server outcomes = record { action = 1; arguments = server ∷ []; outcomes = outcomes }

-- the standby takes the primary's place, and a new standby starts
abbrev pub promoting : List Outcome → Move
promoting outcomes = record { action = 2; arguments = []; outcomes = outcomes }

abbrev pub moves_in : Option Mode → List Move
moves_in None = []
moves_in (Some Both) = routing 0 (to 9 Both ∷ (to 0 Neither ∷ (to 1 Standby ∷ []))) ∷ []
moves_in (Some Standby) = routing 1 (to 3 Standby ∷ (to 1 Neither ∷ [])) ∷ (promoting (to 1 Both ∷ []) ∷ [])
moves_in (Some Neither) = []

-- servers fail and are mended
abbrev pub delays_in : Option Mode → List Delay
delays_in None = []
delays_in (Some Both) = after 1 Standby ∷ []
delays_in (Some Standby) = after 5 Both ∷ (after 1 Neither ∷ [])
delays_in (Some Neither) = after 3 Standby ∷ []

abbrev pub failover : Meaning
failover = record { width = 2; member = λ x. is_some (mode_of x); start = words_of Both; moves = λ x. moves_in (mode_of x) }

abbrev pub failover_delays : List ℕ → List Delay
failover_delays x = delays_in (mode_of x)
