use Rattle.std.proofs.Common.{[], ◌∷◌, ◌++◌, sym, ap, subst, ◌∙◌}
use Rattle.linear.specs.Equations.{Acts}
use Rattle.linear.specs.Layout.{counted, acts_words}
use Rattle.linear_write.specs.Written.{written, after, HasRoom}
use Rattle.linear_write.proofs.Putting.{step, room_first, room_then}
use Rattle.linear_write.proofs.parts.ActPart.put.Goals as goal

pub put-requires-2 : goal.put-requires-2
put-requires-2 c =
    let a = c.self.inside in
    let tail = a.variable ∷ (a.weight ∷ []) in
    let rest = counted a.arguments ++ tail in
    let room = subst (λ (v : Acts). HasRoom (written c.args.writer.now) (acts_words v)) (sym c.self.view_is) c.requires.room in
    record { room = room_first (written c.put_list.new.self) (a.variable ∷ []) (a.weight ∷ []) (room_then (written c.put.new.self) (counted a.arguments) tail (room_then (written c.args.writer.now) (a.action ∷ []) rest room c.put.ensures.leaves) c.put_list.ensures.leaves) }

pub put-requires-3 : goal.put-requires-3
put-requires-3 c =
    let a = c.self.inside in
    let tail = a.variable ∷ (a.weight ∷ []) in
    let rest = counted a.arguments ++ tail in
    let room = subst (λ (v : Acts). HasRoom (written c.args.writer.now) (acts_words v)) (sym c.self.view_is) c.requires.room in
    record { room = room_then (written c.put_list.new.self) (a.variable ∷ []) (a.weight ∷ []) (room_then (written c.put.new.self) (counted a.arguments) tail (room_then (written c.args.writer.now) (a.action ∷ []) rest room c.put.ensures.leaves) c.put_list.ensures.leaves) c.put-2.ensures.leaves }

pub returns : goal.returns
returns c =
    let a = c.self.inside in
    let tail = a.variable ∷ (a.weight ∷ []) in
    let rest = counted a.arguments ++ tail in
    record { leaves = step (written c.args.writer.now) (a.action ∷ []) rest c.put.ensures.leaves (step (written c.put.new.self) (counted a.arguments) tail c.put_list.ensures.leaves (step (written c.put_list.new.self) (a.variable ∷ []) (a.weight ∷ []) c.put-2.ensures.leaves c.put-3.ensures.leaves)) ∙ ap (λ (v : Acts). after (written c.args.writer.now) (acts_words v)) c.self.view_is }
