use Rattle.std.proofs.Common.{◌++◌, sym, ap, subst, ◌∙◌}
use Rattle.linear.specs.Equations.{Summand}
use Rattle.linear.specs.Layout.{guard_words, leads_words, summand_words}
use Rattle.linear_write.specs.Written.{written, after, HasRoom}
use Rattle.linear_write.proofs.Putting.{step, room_first, room_then}
use Rattle.linear_write.proofs.writer.Writer.put_summand.Goals as goal

pub put-requires : goal.put-requires
put-requires g c =
    let s = c.summand.inside in
    let does = g.D.Doing.words s.does in
    let leads = leads_words s.leads in
    let room = subst (λ (v : Summand g.row.D.Denot). HasRoom (written c.args.self.now) (summand_words g.D.Doing.words v)) (sym c.summand.view_is) c.requires.room in
    record { room = room_first (written c.put_guard.new.self) does leads (room_then (written c.args.self.now) (guard_words s.when) (does ++ leads) room c.put_guard.ensures.leaves) }

pub put_target-requires : goal.put_target-requires
put_target-requires g c =
    let s = c.summand.inside in
    let does = g.D.Doing.words s.does in
    let leads = leads_words s.leads in
    let room = subst (λ (v : Summand g.row.D.Denot). HasRoom (written c.args.self.now) (summand_words g.D.Doing.words v)) (sym c.summand.view_is) c.requires.room in
    record { room = room_then (written c.put_guard.new.self) does leads (room_then (written c.args.self.now) (guard_words s.when) (does ++ leads) room c.put_guard.ensures.leaves) c.put.ensures.leaves }

pub returns : goal.returns
returns g c =
    let s = c.summand.inside in
    let does = g.D.Doing.words s.does in
    let leads = leads_words s.leads in
    record { leaves = step (written c.args.self.now) (guard_words s.when) (does ++ leads) c.put_guard.ensures.leaves (step (written c.put_guard.new.self) does leads c.put.ensures.leaves c.put_target.ensures.leaves) ∙ ap (λ (v : Summand g.row.D.Denot). after (written c.args.self.now) (summand_words g.D.Doing.words v)) c.summand.view_is }
