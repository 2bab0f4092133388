use Rattle.std.proofs.Common.{ap, subst, ◌∙◌, ◌++◌, ◌∷◌, [], None, arith}
use Rattle.ways.specs.Stacks.{Turned, below}
use Rattle.ways.proofs.Turns.{turned_choice, turned_sum}
use Rattle.ways.proofs.cursor.Cursor.turn.Goals as goal

pub returns-in_Choice-nodes : goal.returns-in_Choice-nodes
returns-in_Choice-nodes g c =
    let L = g.L.Language.meaning c.args.language.now in
    let sizes = g.N.Nodes.sizes c.args.nodes.now in
    let tree = g.N.Nodes.tree c.args.nodes.now in
    let rest = below c.args.self.now.frames.items in
    subst (λ f. Turned L sizes tree f rest None c.push.new.self.items) c.top-frame.ensures
    (turned_choice L sizes tree c.top-frame.result _ _ c.in_Choice-nodes.ensures.answer _ _ _
    (c.put-in_Choice-nodes.ensures ∙ ap (λ f. rest ++ f ∷ []) c.new-in_Choice-nodes.ensures)
    (c.push.ensures.items ∙ ap (λ f. c.put-in_Choice-nodes.new.self.frames.items ++ f ∷ []) c.new-in_Choice-nodes-2.ensures))

pub returns-then-frame-size : goal.returns-then-frame-size
returns-then-frame-size g c =
    let L = g.L.Language.meaning c.args.language.now in
    let sizes = g.N.Nodes.sizes c.args.nodes.now in
    let tree = g.N.Nodes.tree c.args.nodes.now in
    let rest = below c.args.self.now.frames.items in
    subst (λ f. Turned L sizes tree f rest None c.push-then-frame-size.new.self.items) c.top-frame.ensures
    (turned_sum L sizes tree c.top-frame.result _ _ c.in_Sum-nodes.ensures.answer (omega (arith, c.size.ensures.answer, c.if-frame-size.true)) c.with-set.result c.with-set.ensures.answer _ _ _
    c.put-then-frame-size.ensures
    (c.push-then-frame-size.ensures.items ∙ ap (λ f. c.put-then-frame-size.new.self.frames.items ++ f ∷ []) c.new-then-frame-size.ensures))
