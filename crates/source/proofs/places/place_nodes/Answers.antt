use Rattle.std.proofs.Common.{◌≡◌, ℕ, ◌<◌, Bool, not, ◌&&◌, ◌||◌, eqb, sym, ap, ◌∙◌, ap₂, arith}
use Rattle.model.specs.Flat.{flat}
use Rattle.model.specs.Nodes.{node_in}
use Rattle.source.specs.Counters.{calling}
use Rattle.source.specs.Sets.{has}
use Rattle.source.specs.declared.set.NodeSet.{NodeSet}
use Rattle.source.proofs.Flagged.{flagged_none, flagged_off, flagged_on, flagged_all}
use Rattle.source.proofs.Flats.{few_nodes, node_number}
use Rattle.source.proofs.Rested.{call_hit, or_swapped}
use Rattle.source.proofs.places.place_nodes.Goals as goal
use Rattle.source.proofs.places.place_nodes.Goals.{then-contains-is_call, else-contains-is_call}

pub loop-node-init : goal.loop-node-init
loop-node-init c = λ n l. flagged_none (λ j. has c.moved_nodes-moved.result j && not (calling (node_in (flat c.args.model.now.bytes.now) j))) (has c.body_nodes-places.result n) n

pub loop-node-preserved : goal.loop-node-preserved
loop-node-preserved c =
    let i = c.loop-node.node in
    let s : ℕ → Bool = λ j. has c.moved_nodes-moved.result j && not (calling (node_in (flat c.args.model.now.bytes.now) j)) in
    let e : s i ≡ (c.contains.result && not c.is_call.result) = ap₂ (λ a b. a && not b) (sym c.contains.ensures.answer) (sym c.is_call.ensures.answer) in
    elim c.if-contains-is_call.branch [
      | then-contains-is_call w ↦ λ n l. ap (λ (p : NodeSet). has p n) w.places-is ∙ w.insert.ensures.leaves n l ∙ ap (λ b. eqb i n || b) (c.loop-node.invariant n l) ∙ flagged_on s (has c.body_nodes-places.result n) i n (e ∙ w.if-contains-is_call.true)
      | else-contains-is_call w ↦ λ n l. ap (λ (p : NodeSet). has p n) w.places-is ∙ c.loop-node.invariant n l ∙ flagged_off s (has c.body_nodes-places.result n) i n (e ∙ w.if-contains-is_call.false)
    ]

pub returns : goal.returns
returns c =
    let bs = c.args.model.now.bytes.now in
    let law = c.args.model.now.lawful in
    record {
      answer = λ n l.
          let m : n < 256 = omega (arith, node_number bs law, few_nodes bs law) in
          c.loop-node.invariant n m
          ∙ flagged_all (λ j. has c.moved_nodes-moved.result j && not (calling (node_in (flat bs) j))) (has c.body_nodes-places.result n) c.loop-node.node n (omega (arith, c.node_count-node-end.ensures.answer))
          ∙ or_swapped (has c.moved_nodes-moved.result n && not (calling (node_in (flat bs) n))) (has c.body_nodes-places.result n)
          ∙ ap₂ ◌||◌ (c.body_nodes-places.ensures.answer n m)
          (ap₂ (λ a b. a && not b) (c.moved_nodes-moved.ensures.answer n m) (call_hit bs law n (omega (arith, node_number bs law))));
    }
