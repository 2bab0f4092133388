use Rattle.std.proofs.Common.{[], ◌∷◌, ◌++◌, sym, ap, subst, ◌∙◌}
use Rattle.linear.specs.Equations.{Guarded}
use Rattle.linear.specs.Layout.{counted, guard_words}
use Rattle.linear_write.specs.Written.{written, after, HasRoom}
use Rattle.linear_write.proofs.Putting.{step, room_then}
use Rattle.linear_write.proofs.writer.Writer.put_guard.Goals as goal

pub put_list-requires-2 : goal.put_list-requires-2
put_list-requires-2 c =
    let g = c.guard.inside in
    let sums = counted g.sums in
    let conditions = counted g.conditions in
    let room = subst (λ (v : Guarded). HasRoom (written c.args.self.now) (guard_words v)) (sym c.guard.view_is) c.requires.room in
    record { room = room_then (written c.put.new.self) sums conditions (room_then (written c.args.self.now) (g.counter ∷ []) (sums ++ conditions) room c.put.ensures.leaves) c.put_list.ensures.leaves }

pub returns : goal.returns
returns c =
    let g = c.guard.inside in
    let sums = counted g.sums in
    let conditions = counted g.conditions in
    record { leaves = step (written c.args.self.now) (g.counter ∷ []) (sums ++ conditions) c.put.ensures.leaves (step (written c.put.new.self) sums conditions c.put_list.ensures.leaves c.put_list-2.ensures.leaves) ∙ ap (λ (v : Guarded). after (written c.args.self.now) (guard_words v)) c.guard.view_is }
