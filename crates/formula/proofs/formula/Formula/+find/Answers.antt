use Rattle.std.proofs.Common.{◌≡◌, sym, ap, ◌∙◌, arith}
use Rattle.formula.specs.Answers.{Kept}
use Rattle.formula.proofs.Keeping.{kept_at, kept_more}
use Rattle.formula.proofs.formula.Formula.+find.Goals as goal
use Rattle.formula.proofs.formula.Formula.+find.Goals.{in-Constant, in-Variable, in-Binary, in-Choose+in-Second, in-Choose+in-Third, in-Choose+in-ByBoth}

pub returns-in-Some-clause-answer : goal.returns-in-Some-clause-answer
returns-in-Some-clause-answer g t c = λ f solves.
    kept_at f c.args.memo.now c.args.e _ _ c.in-Some.x c.from-at.ensures (omega arith) (c.requires.kept f solves) c.in-Some.is

pub returns-clause-answer : goal.returns-clause-answer
returns-clause-answer g t c = λ f solves.
    let step = g.Q.Question.step c.args.question.now in
    let one : c.match-cell.found ≡ step c.cell.result f = elim c.match-cell.branch [
      | in-Constant w ↦ rw (w.found-is, w.in-Constant.is) (w.constant-found.ensures.answer f)
      | in-Variable w ↦ rw (w.found-is, w.in-Variable.is) (w.variable-found.ensures.answer f)
      | in-Binary w ↦ rw (w.found-is, w.in-Binary.is) (w.operation-found.ensures.answer f w.in-Binary.a w.in-Binary.b (w.find-x.ensures.answer f solves) (w.find-y.ensures.answer f solves))
      | in-Choose+in-Second w ↦ rw (w.found-is, w.in-Choose.is) (w.find.ensures.answer f solves ∙ sym (w.in-Second.ensures.answer f w.in-Choose.a w.in-Choose.b w.in-Choose.c (w.find-x-in-Choose.ensures.answer f solves)))
      | in-Choose+in-Third w ↦ rw (w.found-is, w.in-Choose.is) (w.find-in-Third.ensures.answer f solves ∙ sym (w.in-Third.ensures.answer f w.in-Choose.a w.in-Choose.b w.in-Choose.c (w.find-x-in-Choose.ensures.answer f solves)))
      | in-Choose+in-ByBoth w ↦ rw (w.found-is, w.in-Choose.is) (w.choice.ensures.answer f w.in-Choose.a w.in-Choose.b w.in-Choose.c (w.find-x-in-Choose.ensures.answer f solves) (w.find-y-in-ByBoth.ensures.answer f solves) (w.find-z.ensures.answer f solves))
    ] in
    one ∙ ap (λ cell. step cell f) c.cell.ensures.answer ∙ sym (solves c.args.e c.requires.within)

pub returns-clause-leaves : goal.returns-clause-leaves
returns-clause-leaves g t c = λ f solves.
    let kept : Kept f c.match-cell.memo = elim c.match-cell.branch [
      | in-Constant w ↦ rw w.memo-is (c.requires.kept f solves)
      | in-Variable w ↦ rw w.memo-is (c.requires.kept f solves)
      | in-Binary w ↦ rw w.memo-is (w.find-y.ensures.leaves f solves)
      | in-Choose+in-Second w ↦ rw w.memo-is (w.find.ensures.leaves f solves)
      | in-Choose+in-Third w ↦ rw w.memo-is (w.find-in-Third.ensures.leaves f solves)
      | in-Choose+in-ByBoth w ↦ rw w.memo-is (w.find-z.ensures.leaves f solves)
    ] in
    rw c.from-at.ensures (kept_more f c.match-cell.memo c.args.e c.match-cell.found (omega arith) kept (returns-clause-answer g t c f solves))
