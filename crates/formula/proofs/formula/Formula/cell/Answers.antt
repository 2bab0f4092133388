use Rattle.std.proofs.Common.{◌≡◌, length, rules}
use Rattle.formula.specs.Among.{lawful_at}
use Rattle.formula.proofs.formula.Formula.cell.Goals as goal

pub returns-clause-rules : goal.returns-clause-rules
returns-clause-rules c =
    let cells = c.args.self.now.cells.items in
    let whole : c.deref.result.now ≡ cells = search rules in
    rw (whole, c.from.ensures) (lawful_at cells (length cells) c.args.e c.args.self.now.ruled c.requires)
