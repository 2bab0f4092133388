-- Two pools of servers: their states, moves and delays.
use Rattle.std.specs.Prelude.{ℕ, ◌+◌, ◌-◌, Bool, cond, ◌&&◌, List, [], ◌∷◌, length, ◌==◌, nat_lt, slice_index}
use Rattle.system.specs.Systems.{Move, Delay, Meaning}

abbrev pub in_pools : ℕ → ℕ → List ℕ → Bool
in_pools fast slow x = length x == 2 && nat_lt (slice_index x 0) fast && nat_lt (slice_index x 1) slow

abbrev pub busier : ℕ → ℕ → ℕ
busier size busy = cond (nat_lt (busy + 1) size) (busy + 1) busy

abbrev pub calmer : ℕ → ℕ
calmer busy = cond (busy == 0) 0 (busy - 1)

-- a request goes to the fast pool or to the slow one
abbrev pub pools_moves : ℕ → ℕ → List ℕ → List Move
pools_moves fast slow x = record { action = 1; arguments = []; outcomes = record { weight = 2; target = busier fast (slice_index x 0) ∷ (slice_index x 1 ∷ []) } ∷ (record { weight = 1; target = slice_index x 0 ∷ (busier slow (slice_index x 1) ∷ []) } ∷ []) } ∷ []

-- a request is answered by the fast pool or by the slow one
abbrev pub pools_delays : List ℕ → List Delay
pools_delays x = record { rate = 5; target = calmer (slice_index x 0) ∷ (slice_index x 1 ∷ []) } ∷ (record { rate = 3; target = slice_index x 0 ∷ (calmer (slice_index x 1) ∷ []) } ∷ [])

abbrev pub pools : ℕ → ℕ → Meaning
pools fast slow = record { width = 2; member = in_pools fast slow; start = 0 ∷ (0 ∷ []); moves = pools_moves fast slow }
