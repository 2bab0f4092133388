use Rattle.std.proofs.Common.{◌≡◌, ◌||◌, eqb, sym, ap, ◌∙◌, arith}
use Rattle.model.specs.Flat.{flat}
use Rattle.model.specs.Nodes.{node_in}
use Rattle.source.specs.Sets.{has}
use Rattle.fit.specs.Fitting.{strays_at}
use Rattle.fit.specs.Scopes.{in_node}
use Rattle.fit.specs.Uses.{strays}
use Rattle.source.proofs.Flagged.{flagged_none, flagged_all, flagged_off, flagged_on}
use Rattle.source.specs.declared.set.NodeSet.{NodeSet}
use Rattle.fit.proofs.fitting.add_strays.Goals as goal
use Rattle.fit.proofs.fitting.add_strays.Goals.{then-strays_here, else-strays_here}

pub loop-node-init : goal.loop-node-init
loop-node-init g c =
    let L = g.L.Language.meaning c.args.language.now in
    let G = flat c.args.model.now.bytes.now in
    λ k l. flagged_none (λ j. strays_at L G j c.args.variable) (has c.args.strays.now k) k

pub loop-node-preserved : goal.loop-node-preserved
loop-node-preserved g c =
    let L = g.L.Language.meaning c.args.language.now in
    let G = flat c.args.model.now.bytes.now in
    let x = c.args.variable in
    let i = c.loop-node.node in
    let z : c.strays_here.result ≡ strays_at L G i x =
    c.strays_here.ensures.answer ∙ ap (λ b. in_node (strays L x b) (node_in G i)) (c.contains.ensures.answer ∙ c.scope_nodes-scope.ensures.answer i (omega arith)) in
    elim c.if-strays_here.branch [
      | then-strays_here w ↦ λ k l. ap (λ (p : NodeSet). has p k) w.strays-is ∙ w.insert.ensures.leaves k l ∙ ap (λ b. eqb i k || b) (c.loop-node.invariant k l) ∙ flagged_on (λ j. strays_at L G j x) (has c.args.strays.now k) i k (sym z ∙ w.if-strays_here.true)
      | else-strays_here w ↦ λ k l. ap (λ (p : NodeSet). has p k) w.strays-is ∙ c.loop-node.invariant k l ∙ flagged_off (λ j. strays_at L G j x) (has c.args.strays.now k) i k (sym z ∙ w.if-strays_here.false)
    ]

pub returns : goal.returns
returns g c =
    let L = g.L.Language.meaning c.args.language.now in
    let G = flat c.args.model.now.bytes.now in
    record { leaves = λ k l. c.loop-node.invariant k l ∙ flagged_all (λ j. strays_at L G j c.args.variable) (has c.args.strays.now k) c.loop-node.node k (omega arith) }
