-- Which nodes have a program counter, and which one.
--     lower p n        how many nodes below n have p
--     counter_at p n   the counter of node n, where p are the resting places
--     Counts bs l r    in words: a node has a counter just where it is a resting place, and counters count the places from 1
use Rattle.std.specs.Prelude.{◌≡◌, ℕ, zero, suc, ◌+◌, ◌<◌, Bool, true, false, cond, List, Some, None, Option, ◌==◌, slice_index_or}
use Rattle.model_file.specs.declared.layout.Layout.{Layout}
use Rattle.model_file.specs.Fields.{node_count}
use Rattle.model_rules.specs.Sound.{Resting}
use Rattle.model_rules.specs.Tallies.{resting}
use Rattle.model.specs.Nodes.{NodeValue, call, condition, choice, sum, action, delay}
use Rattle.model.specs.declared.node.Process.{Process}
use Rattle.source.specs.declared.numbering.Counter.{Counter}

abbrev pub body_is : Option Process → ℕ → Bool
body_is None n = false
body_is (Some q) n = q.body == n

abbrev pub leads_to : Option NodeValue → ℕ → Bool
leads_to None n = false
leads_to (Some (call p bs)) n = false
leads_to (Some (condition e c)) n = false
leads_to (Some (choice l r)) n = false
leads_to (Some (sum v c)) n = false
leads_to (Some (action a bs v w c)) n = c == n
leads_to (Some (delay r c)) n = c == n

abbrev pub calling : Option NodeValue → Bool
calling None = false
calling (Some (call p bs)) = true
calling (Some (condition e c)) = false
calling (Some (choice l r)) = false
calling (Some (sum v c)) = false
calling (Some (action a bs v w c)) = false
calling (Some (delay r c)) = false

abbrev pub lower : (ℕ → Bool) → ℕ → ℕ
lower p zero = 0
lower p (suc n) = lower p n + cond (p n) 1 0

abbrev pub counter_of : ℕ → Counter
counter_of n = record { 0 = n }

abbrev pub counter_at : (ℕ → Bool) → ℕ → Option Counter
counter_at p n = cond (p n) (Some (counter_of (suc (lower p n)))) None

module _ (bs : List ℕ) (l : Layout) where
  pub record Counts (r : List (Option Counter)) : Type 0 where
    pub some : (n : ℕ) → n < node_count bs l → Resting bs l n → slice_index_or r n None ≡ Some (counter_of (suc (lower (resting bs l) n)))
    pub none : (n : ℕ) → n < node_count bs l → (Resting bs l n → ⊥) → slice_index_or r n None ≡ None
