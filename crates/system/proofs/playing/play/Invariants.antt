use Rattle.std.proofs.Common.{◌≡◌}
use Rattle.system.specs.Walks.{run, run_answers}
use Rattle.system.specs.Trails.{course}
use Rattle.system.proofs.Plays.{Going, put_from}
use Rattle.system.proofs.playing.play.Given as goal

abbrev pub invariant-loop-i : goal.invariant-loop-i
invariant-loop-i g l =
    let s = l.initial.walk.system in
    let m = g.S.System.meaning s in
    let ds = g.S.Markov.delays s in
    let first = course m.width l.initial.walk.trail in
    (l.walk.system ≡ s) × Going g.S.System.meaning g.S.Markov.delays s l.calls l.i l.walk.trail l.answers (run m ds l.calls first) (put_from 0 (run_answers m ds l.calls first) l.initial.answers)
