-- A system with action a renamed to b.
use Rattle.std.specs.Prelude.{ℕ, cond, map, ◌==◌}
use Rattle.system.specs.Systems.{Move, Meaning}

abbrev pub rename_move : ℕ → ℕ → Move → Move
rename_move a b v = record { action = cond (v.action == a) b v.action; arguments = v.arguments; outcomes = v.outcomes }

abbrev pub renamed : ℕ → ℕ → Meaning → Meaning
renamed a b m = record { width = m.width; member = m.member; start = m.start; moves = λ x. map (rename_move a b) (m.moves x) }
