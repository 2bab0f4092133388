-- Where a variable is in scope in a flat model.
--     any_below p n              p holds of some number below n
--     in_node p o                there is a node, and p holds of it
--     parameter q x              x is a parameter of the process q
--     begins o x k               there is a process with the body k, of which x is a parameter
--     is_child v k               node k is a child of the node v
--     handed o x here k before   whether x is in scope at node k once the node o has handed its scope to its children: `here`
--                                says whether it is at o, `before` whether it was at k
--     starts g x k               x is a parameter, and k the body, of some process
--     scope_at g x n k           x is in scope at node k, as far as the processes and the first n nodes tell
--     in_scope g k x             x is in scope at node k
use Rattle.std.specs.Prelude.{ℕ, zero, suc, ◌+◌, Bool, false, ◌&&◌, ◌||◌, length, Some, None, Option, ◌==◌, nat_le, nat_lt}
use Rattle.std.specs.List.{slice_get}
use Rattle.model.specs.declared.node.Process.{Process}
use Rattle.model.specs.Flat.{Flat}
use Rattle.model.specs.Nodes.{NodeValue, call, condition, choice, sum, action, delay, node_in}
use Rattle.source.specs.Nodes.{own_binds}

unfoldable pub any_below : (ℕ → Bool) → ℕ → Bool
any_below p zero = false
any_below p (suc n) = p n || any_below p n

abbrev pub in_node : (NodeValue → Bool) → Option NodeValue → Bool
in_node p None = false
in_node p (Some v) = p v

abbrev pub parameter : Process → ℕ → Bool
parameter q x = nat_le q.first x && nat_lt x (q.first + q.number)

abbrev pub begins : Option Process → ℕ → ℕ → Bool
begins None x k = false
begins (Some q) x k = q.body == k && parameter q x

abbrev pub is_child : NodeValue → ℕ → Bool
is_child (call p bs) k = false
is_child (condition e c) k = c == k
is_child (choice l r) k = l == k || r == k
is_child (sum v c) k = c == k
is_child (action a bs v w c) k = c == k
is_child (delay r c) k = c == k

abbrev pub handed : Option NodeValue → ℕ → Bool → ℕ → Bool → Bool
handed o x here k before = (in_node (λ v. is_child v k) o && (in_node (λ v. own_binds v x) o || here)) || before

module _ (g : Flat) where
  abbrev pub starts : ℕ → ℕ → Bool
  starts x k = any_below (λ p. begins (slice_get g.processes p) x k) (length g.processes)

  abbrev pub scope_at : ℕ → ℕ → ℕ → Bool
  scope_at x zero k = starts x k
  scope_at x (suc n) k = handed (node_in g n) x (scope_at x n n) k (scope_at x n k)

  abbrev pub in_scope : ℕ → ℕ → Bool
  in_scope k x = scope_at x (length g.nodes) k
