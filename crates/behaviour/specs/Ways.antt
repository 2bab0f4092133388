-- The ways down from the resting places of a model to its action and delay nodes.
--     Way          the node it ends at, its sum variables and conditions from the top, what is done there, and where it leads
--     ways t       the ways down a tree, left to right
--     all_ways m   those of all places, by the numbers of their nodes, each with its place's program counter
use Rattle.std.specs.Prelude.{ℕ, suc, List, [], ◌∷◌, ◌++◌, map}
use Rattle.std.specs.List.{flat_map}
use Rattle.valuation.specs.Doings.{Does, acts, waits}
use Rattle.model.specs.Trees.{Tree, call, when, choice, sum, action, delay}
use Rattle.source.specs.Models.{Model, Next, next}
use Rattle.source.specs.Places.{in_order, places}

pub record Way : Type 0 where
  pub leaf : ℕ
  pub sums : List ℕ
  pub conditions : List ℕ
  pub doing : Does
  pub then : Next

abbrev pub add_sum : ℕ → Way → Way
add_sum x y = record { leaf = y.leaf; sums = x ∷ y.sums; conditions = y.conditions; doing = y.doing; then = y.then }

abbrev pub add_condition : ℕ → Way → Way
add_condition e y = record { leaf = y.leaf; sums = y.sums; conditions = e ∷ y.conditions; doing = y.doing; then = y.then }

abbrev pub ways : Tree → List Way
ways (call n p es) = []
ways (when n e t) = map (add_condition e) (ways t)
ways (choice n l r) = ways l ++ ways r
ways (sum n x t) = map (add_sum x) (ways t)
ways (action n a es x w t) = record { leaf = n; sums = []; conditions = []; doing = acts a es x w; then = next t } ∷ []
ways (delay n r t) = record { leaf = n; sums = []; conditions = []; doing = waits r; then = next t } ∷ []

abbrev pub numbered : {X : Type 0} → ℕ → List X → List (ℕ × X)
numbered k [] = []
numbered k (x ∷ xs) = (k, x) ∷ numbered (suc k) xs

abbrev pub all_ways : Model → List (ℕ × Way)
all_ways m = in_order (λ z. z.1.leaf) m.nodes (flat_map (λ z. map (λ y. (z.0, y)) (ways z.1)) (numbered 1 (places m)))
