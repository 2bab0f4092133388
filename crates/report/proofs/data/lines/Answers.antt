use Rattle.std.proofs.Common.{string_bytes, refl}
use Rattle.report.specs.Data.{line_of, lines_below}
use Rattle.report.proofs.Pieces.{pieces_more}
use Rattle.report.proofs.data.lines.Goals as goal

pub loop-expression-preserved : goal.loop-expression-preserved
loop-expression-preserved g c =
    let l = g.L.Language.meaning c.args.language.now in
    pieces_more (lines_below l) (line_of l) (λ _. refl) c.loop-expression.expression (string_bytes c.loop-expression.text) (string_bytes c.put_line.new.text) c.loop-expression.invariant c.in_ok-put_line.ensures.leaves
