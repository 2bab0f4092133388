use Rattle.std.proofs.Common.{refl, ◌∙◌}
use Rattle.system.proofs.WalkLaws.{walk_rules}
use Rattle.system.proofs.Plays.{going_step, going_end}
use Rattle.system.proofs.playing.play.Goals as goal

pub loop-i-init : goal.loop-i-init
loop-i-init g c = (refl, record { runs = refl; puts = refl })

pub loop-i-preserved : goal.loop-i-preserved
loop-i-preserved g c =
    let inv = c.loop-i.invariant in
    let did = c.call-answer.ensures in
    (did.same ∙ inv.0, going_step g.S.System.meaning g.S.Markov.delays _ _ c.args.calls.now c.loop-i.i _ c.loop-i.walk.trail c.call-answer.new.self.trail c.call-answer.result c.loop-i.answers c.note.new.answers _ _ inv.0 inv.1 c.loop-i-test.true did.leaves c.note.ensures.leaves)

pub returns : goal.returns
returns g c =
    let made = c.new-walk.ensures in
    let inv = c.loop-i.invariant in
    let s = c.args.system in
    let end = going_end g.S.System.meaning g.S.Markov.delays c.args.system c.new-walk.result.system c.args.calls.now c.loop-i.i c.new-walk.result.trail c.loop-i.walk.trail c.args.answers.now c.loop-i.answers made.same made.answer inv.1 c.loop-i-test.false in
    record { answer = end.answer; leaves = end.leaves; walks = end.walks; rules = walk_rules (g.S.System.meaning s) (g.S.Markov.delays s) (g.met.S.System.sound s) (g.met.S.Markov.waits s); same = inv.0 ∙ made.same }
