-- The counts of a model's nodes, node by node. Assumes nothing.
use Rattle.std.proofs.Common.{◌≡◌, ℕ, zero, suc, ◌+◌, ◌≤◌, Some, None, Option, sym, ap, ◌∙◌, add-one, arith}
use Rattle.model.specs.Flat.{Flat}
use Rattle.model.specs.Nodes.{NodeValue, call, condition, choice, sum, action, delay, node_in}
use Rattle.report.specs.Kinds.{add_kind, kinds_below, kind_total}
use Rattle.report.specs.declared.kinds.Kinds.{Kinds}

total_more : (k : Kinds) (v : Option NodeValue) (n : ℕ) → kind_total k ≤ n → kind_total (add_kind k v) ≤ suc n
total_more k None n le = omega arith
total_more k (Some (call p args)) n le = omega arith
total_more k (Some (condition x c)) n le = omega arith
total_more k (Some (choice x y)) n le = omega arith
total_more k (Some (sum v c)) n le = omega arith
total_more k (Some (action a args v w c)) n le = omega arith
total_more k (Some (delay r c)) n le = omega arith

-- the counts of n nodes are n at most
pub total_below : (g : Flat) (n : ℕ) → kind_total (kinds_below g n) ≤ n
total_below g zero = omega arith
total_below g (suc n) = total_more (kinds_below g n) (node_in g n) n (total_below g n)

pub kinds_more : (g : Flat) (n : ℕ) (before after : Kinds) (v : Option NodeValue) → before ≡ kinds_below g n → v ≡ node_in g n → after ≡ add_kind before v → after ≡ kinds_below g (n + 1)
kinds_more g n before after v is node more =
    more ∙ ap (λ k. add_kind k v) is ∙ ap (add_kind (kinds_below g n)) node ∙ ap (kinds_below g) (sym (add-one n))
