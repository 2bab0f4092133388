use Rattle.std.proofs.Common.{◌≡◌, ℕ, ◌+◌, ◌<◌, get_or, None, sym, refl, ◌∙◌, subst, arith}
use Rattle.std.proofs.lemmas.List.{set-get_or}
use Rattle.model_file.specs.Fields.{node_count}
use Rattle.model_file.specs.Layouts.{layout_of}
use Rattle.model_rules.specs.Tallies.{resting}
use Rattle.source.specs.Counters.{counter_at}
use Rattle.source.proofs.Flats.{few_nodes, node_number}
use Rattle.source.specs.Sets.{has}
use Rattle.source.proofs.Numbers.{Numbered, counter_same, no_place, a_place, nones}
use Rattle.source.proofs.Rested.{counts}
use Rattle.source.proofs.numbering.counters.Goals as goal

pub loop-node-preserved : goal.loop-node-preserved
loop-node-preserved c = a_place (λ n. has c.place_nodes-places.result n) c.loop-node.counter-items c.loop-node.node c.loop-node.next (omega arith) c.loop-node.invariant c.if-not-places-node.false

pub loop-node-init : goal.loop-node-init
loop-node-init c = (refl, refl, omega arith, (λ k l. absurd (omega arith)), (λ k l. nones 256 k))

pub loop-node-preserved-then-not-places-node : goal.loop-node-preserved-then-not-places-node
loop-node-preserved-then-not-places-node c =
    subst (λ cs. Numbered (λ n. has c.place_nodes-places.result n) cs (c.loop-node.node + 1) c.loop-node.next) (sym (set-get_or c.loop-node.counter-items c.loop-node.node None))
    (no_place (λ n. has c.place_nodes-places.result n) c.loop-node.counter-items c.loop-node.node c.loop-node.next (omega arith) c.loop-node.invariant c.if-not-places-node.true)

pub returns : goal.returns
returns c =
    let bs = c.args.model.now.bytes.now in
    let law = c.args.model.now.lawful in
    let places = c.place_nodes-places.result in
    let is : (n : ℕ) → n < node_count bs (layout_of bs) → get_or c.loop-node.counter-items n None ≡ counter_at (resting bs (layout_of bs)) n =
    λ n l. c.loop-node.invariant.3 n (omega (arith, few_nodes bs law)) ∙ counter_same (λ k. has places k) (resting bs (layout_of bs)) n (λ k m. c.place_nodes-places.ensures.answer k (omega (arith, node_number bs law))) in
    record { answer = λ n l. is n (omega (arith, node_number bs law)); rules = counts bs law c.loop-node.counter-items is }
