use Rattle.std.proofs.Common.{◌≡◌, ◌≤◌, ℕ, ◌-◌, length, take, drop, replicate, sym, ◌∙◌, arith}
use Rattle.std.proofs.lemmas.List.{take_at}
use Rattle.system.proofs.Answered.{part_long, front_zeros, rest_zeros}
use Rattle.system.proofs.rows.asked.Goals as goal

pub returns : goal.returns
returns g c =
    let m = g.S.System.meaning c.args.system.now in
    let w = c.width-width.result in
    let is = c.width-width.ensures.answer in
    let low : w ≤ 64 = omega (arith, (g.met.S.System.sound c.args.system.now).narrow, is) in
    let lent : length (take (w - 0) (drop 0 (replicate {A = ℕ} 64 0))) ≡ m.width = part_long (replicate 64 0) w m.width low is in
    let long : length c.question-answer.new.arg2 ≡ m.width = c.question-answer.auto.arg2 ∙ lent in
    record {
      put = record { shown = _; shows = front_zeros w m.width low is; left = _; met = c.question-answer.ensures; leaves = sym (take_at _ _ _ long) };
      rest = rest_zeros w m.width low is c.question-answer.new.arg2 long;
    }
