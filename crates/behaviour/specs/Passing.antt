-- What stands above each node of a model, passed from node to child, and the summands node by node.
--     and_sum, and_condition     a sum variable, a condition more
--     passed v u f k             what stands above node k once a node v, above which u stands, has passed it on; f k before
--     above_at nodes start n k   the same once the first n nodes have, where `start` is given at first
--     above nodes start i        what stands above node i
--     actions_at, delays_at      the summand of an action node, and of a delay node
use Rattle.std.specs.Prelude.{ℕ, zero, suc, Bool, false, cond, ◌||◌, List, [], ◌∷◌, ◌++◌, Some, None, Option, ◌==◌}
use Rattle.linear.specs.Equations.{Guarded, Acts, Leads, Summand}
use Rattle.model.specs.Nodes.{NodeValue, call, condition, choice, sum, action, delay}
use Rattle.source.specs.Nodes.{words_in}

abbrev pub place_itself : ℕ → Guarded
place_itself c = record { counter = c; sums = []; conditions = [] }

abbrev pub and_sum : ℕ → Guarded → Guarded
and_sum x u = record { counter = u.counter; sums = u.sums ++ (x ∷ []); conditions = u.conditions }

abbrev pub and_condition : ℕ → Guarded → Guarded
and_condition e u = record { counter = u.counter; sums = u.sums; conditions = u.conditions ++ (e ∷ []) }

abbrev pub passed : Option NodeValue → Guarded → (ℕ → Guarded) → ℕ → Guarded
passed None u f k = f k
passed (Some (call p bs)) u f k = f k
passed (Some (condition e c)) u f k = cond (k == c) (and_condition e u) (f k)
passed (Some (choice x y)) u f k = cond (k == y) u (cond (k == x) u (f k))
passed (Some (sum v c)) u f k = cond (k == c) (and_sum v u) (f k)
passed (Some (action a bs v w c)) u f k = f k
passed (Some (delay r c)) u f k = f k

-- whether the node passes it on to node k
abbrev pub passes_to : Option NodeValue → ℕ → Bool
passes_to None k = false
passes_to (Some (call p bs)) k = false
passes_to (Some (condition e c)) k = k == c
passes_to (Some (choice x y)) k = k == y || k == x
passes_to (Some (sum v c)) k = k == c
passes_to (Some (action a bs v w c)) k = false
passes_to (Some (delay r c)) k = false

module _ (nodes : ℕ → Option NodeValue) (start : ℕ → Guarded) where
  abbrev pub above_at : ℕ → ℕ → Guarded
  above_at zero k = start k
  above_at (suc n) k = passed (nodes n) (above_at n n) (above_at n) k

  abbrev pub above : ℕ → Guarded
  above i = above_at i i

-- the summand of a node above which u stands, where leads c says where the child c leads
module _ (u : Guarded) (leads : ℕ → Leads) where
  abbrev pub actions_at : Option NodeValue → List (Summand Acts)
  actions_at None = []
  actions_at (Some (call p bs)) = []
  actions_at (Some (condition e c)) = []
  actions_at (Some (choice x y)) = []
  actions_at (Some (sum v c)) = []
  actions_at (Some (action a bs v w c)) = record { when = u; does = record { action = a; arguments = words_in bs; variable = v; weight = w }; leads = leads c } ∷ []
  actions_at (Some (delay r c)) = []

  abbrev pub delays_at : Option NodeValue → List (Summand ℕ)
  delays_at None = []
  delays_at (Some (call p bs)) = []
  delays_at (Some (condition e c)) = []
  delays_at (Some (choice x y)) = []
  delays_at (Some (sum v c)) = []
  delays_at (Some (action a bs v w c)) = []
  delays_at (Some (delay r c)) = record { when = u; does = r; leads = leads c } ∷ []
