use Rattle.std.proofs.Common.{refl, arith}
use Rattle.model.proofs.Judged.{judgement}
use Rattle.model.proofs.model.judge.judge.Goals as goal

pub returns : goal.returns
returns c =
    let cut = c.in_ok-check_sections.ensures in
    let q = judgement c.args.bytes.now (λ i. omega (arith, c.type_inv.bytes i)) _ cut.answer (cut.rules.0 refl) c.check_rules.ensures.answer c.check_rules.ensures.rules in
    record { answer = q.answer; rules = q.rules; written = q.whole; lists = q.lists }
