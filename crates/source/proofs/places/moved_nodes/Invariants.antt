use Rattle.std.proofs.Common.{◌≡◌, ℕ, ◌-◌, ◌<◌, ◌||◌, ltb}
use Rattle.model_rules.specs.Tallies.{one, total}
use Rattle.model.specs.Flat.{flat}
use Rattle.model.specs.Nodes.{node_in}
use Rattle.source.specs.Counters.{leads_to}
use Rattle.source.specs.Sets.{has}
use Rattle.source.proofs.places.moved_nodes.Given as goal

abbrev pub invariant-loop-node : goal.invariant-loop-node
invariant-loop-node l =
    (n : ℕ) → n < 256 → (has l.moved n || ltb 0 (total (λ j. one (leads_to (node_in (flat l.model.bytes.now) j) n)) (l.node-end - l.node) l.node)) ≡ ltb 0 (total (λ j. one (leads_to (node_in (flat l.model.bytes.now) j) n)) l.node-end 0)
