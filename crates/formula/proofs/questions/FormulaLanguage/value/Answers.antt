use Rattle.std.proofs.Common.{length, sym, subst, ◌≤◌}
use Rattle.formula.specs.Among.{value_is, value_beyond}
use Rattle.formula.specs.Cells.{value_among}
use Rattle.formula.proofs.questions.FormulaLanguage.value.Goals as goal

pub returns-then-expression-count : goal.returns-then-expression-count
returns-then-expression-count c =
    let cs = c.args.self.now.cells.items in
    let beyond : length cs ≤ c.args.expression = subst (λ n. n ≤ c.args.expression) c.count.ensures.answer c.if-expression-count.true in
    record { answer = sym (value_beyond cs c.args.valuation.now (length cs) c.args.expression beyond) }

pub returns : goal.returns
returns c =
    let f = c.args.self.now in
    let cs = f.cells.items in
    let n = length cs in
    let asked = c.args.valuation.now in
    record { answer = c.answer.ensures.answer (value_among cs asked n) (λ e lt. value_is cs n e f.ruled lt asked) }
