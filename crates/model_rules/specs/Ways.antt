-- The limits on the ways down from a resting place.
use Rattle.std.specs.Prelude.{ℕ, zero, suc, ◌+◌, ◌*◌, Bool, true, cond, ◌&&◌, List, Some, None, Option, nat_le}
use Rattle.model_file.specs.declared.layout.Layout.{Layout}
use Rattle.model_file.specs.Fields.{size_of, node_count}
use Rattle.model_rules.specs.Shapes.{Shape, shape_at}
use Rattle.model_rules.specs.declared.shape.Shape.TheVariants.{Call, Condition, Choice, Sum, Action, Delay}
use Rattle.model_rules.specs.Tallies.{resting}

abbrev pub limits : ℕ → ℕ → ℕ → Bool
limits sums conditions product = nat_le sums 8 && (nat_le conditions 8 && nat_le product 65536)

-- the ways on from a node, where `from` says so of its children
abbrev pub ways_of : List ℕ → (ℕ → ℕ → ℕ → ℕ → Bool) → Option Shape → ℕ → ℕ → ℕ → Bool
ways_of bs from None s c p = true
ways_of bs from (Some (Call x y)) s c p = true
ways_of bs from (Some (Condition x y)) s c p = from y s (c + 1) p
ways_of bs from (Some (Choice x y)) s c p = from x s c p && from y s c p
ways_of bs from (Some (Sum v y)) s c p = from y (s + 1) c (p * size_of bs v)
ways_of bs from (Some (Action a f v w y)) s c p = true
ways_of bs from (Some (Delay r y)) s c p = true

-- no way down from node n, in at most k steps, passes the limits, with s sums, c conditions and product p above it
abbrev pub ways : List ℕ → Layout → ℕ → ℕ → ℕ → ℕ → ℕ → Bool
ways bs l zero n s c p = limits s c p
ways bs l (suc k) n s c p = limits s c p && ways_of bs (ways bs l k) (shape_at bs l n) s c p

abbrev pub ways_fit : List ℕ → Layout → ℕ → Bool
ways_fit bs l n = cond (resting bs l n) (ways bs l (node_count bs l) n 0 0 1) true
