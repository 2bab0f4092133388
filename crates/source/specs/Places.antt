-- Resting places and their program counters.
--     in_order key k xs   sorted by a number below k: those with 0, then those with 1, and so on
--     below t             the places below a tree: each child of an action or a delay but a call
--     places m            the places, in node order: each body, and those below
--     counter m n         the program counter of the place at node n: places are numbered from 1
--     place m c           the place of a program counter
use Rattle.std.specs.Prelude.{ℕ, suc, ◌-◌, not, List, [], ◌∷◌, ◌++◌, filter, ◌==◌, nat_eq, slice_index_or}
use Rattle.std.specs.List.{range_with_len, flat_map, prefix_len}
use Rattle.model.specs.Trees.{Tree, call, when, choice, sum, action, delay}
use Rattle.source.specs.Models.{Model, Next, calls, rests, next, node}

abbrev pub in_order : {X : Type 0} → (X → ℕ) → ℕ → List X → List X
in_order key k xs = flat_map (λ n. filter (λ x. nat_eq (key x) n) xs) (range_with_len 0 k)

abbrev pub rest : Next → List Tree
rest (calls p es) = []
rest (rests t) = t ∷ []

abbrev pub below : Tree → List Tree
below (call n p es) = []
below (when n e t) = below t
below (choice n l r) = below l ++ below r
below (sum n x t) = below t
below (action n a es x w t) = rest (next t) ++ below t
below (delay n r t) = rest (next t) ++ below t

abbrev pub unsorted : Model → List Tree
unsorted m = flat_map (λ q. q.body ∷ below q.body) m.processes

abbrev pub places : Model → List Tree
places m = in_order node m.nodes (unsorted m)

abbrev pub counter : Model → ℕ → ℕ
counter m n = suc (prefix_len (λ t. not (node t == n)) (places m))

abbrev pub place : Model → ℕ → Tree
place m c = slice_index_or (places m) (c - 1) (call 0 0 [])
