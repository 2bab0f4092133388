-- How many nodes of each kind a model has.
--     add_kind k v       the counts k with one node more
--     kinds_below g n    those of the nodes below n
--     kind_total k       all of them together
use Rattle.std.specs.Prelude.{ℕ, zero, suc, ◌+◌, Some, None, Option}
use Rattle.model.specs.Flat.{Flat}
use Rattle.model.specs.Nodes.{NodeValue, call, condition, choice, sum, action, delay, node_in}
use Rattle.report.specs.declared.kinds.Kinds.{Kinds}

abbrev pub counts : ℕ → ℕ → ℕ → ℕ → ℕ → ℕ → Kinds
counts a b c d e f = record { calls = a; conditions = b; choices = c; sums = d; actions = e; delays = f }

abbrev pub no_kinds : Kinds
no_kinds = counts 0 0 0 0 0 0

abbrev pub add_kind : Kinds → Option NodeValue → Kinds
add_kind k None = k
add_kind k (Some (call p args)) = counts (k.calls + 1) k.conditions k.choices k.sums k.actions k.delays
add_kind k (Some (condition x c)) = counts k.calls (k.conditions + 1) k.choices k.sums k.actions k.delays
add_kind k (Some (choice x y)) = counts k.calls k.conditions (k.choices + 1) k.sums k.actions k.delays
add_kind k (Some (sum v c)) = counts k.calls k.conditions k.choices (k.sums + 1) k.actions k.delays
add_kind k (Some (action a args v w c)) = counts k.calls k.conditions k.choices k.sums (k.actions + 1) k.delays
add_kind k (Some (delay r c)) = counts k.calls k.conditions k.choices k.sums k.actions (k.delays + 1)

abbrev pub kinds_below : Flat → ℕ → Kinds
kinds_below g zero = no_kinds
kinds_below g (suc n) = add_kind (kinds_below g n) (node_in g n)

abbrev pub kind_total : Kinds → ℕ
kind_total k = k.calls + k.conditions + k.choices + k.sums + k.actions + k.delays
