use Rattle.std.proofs.Common.{◌++◌, codes, ap, ◌∙◌}
use Rattle.report.specs.Summaries.{line_text}
use Rattle.report.proofs.summary.kind_lines.Goals as goal

pub returns : goal.returns
returns c =
    let k = c.args.kinds in
    record { answer = c.in_ok-put_line-6.ensures.leaves ∙ ap (λ t. t ++ line_text (codes "delay nodes") k.delays) (c.in_ok-put_line-5.ensures.leaves ∙ ap (λ t. t ++ line_text (codes "action nodes") k.actions) (c.in_ok-put_line-4.ensures.leaves ∙ ap (λ t. t ++ line_text (codes "sum nodes") k.sums) (c.in_ok-put_line-3.ensures.leaves ∙ ap (λ t. t ++ line_text (codes "choice nodes") k.choices) (c.in_ok-put_line-2.ensures.leaves ∙ ap (λ t. t ++ line_text (codes "condition nodes") k.conditions) (c.in_ok-put_line.ensures.leaves ∙ ap (λ t. t ++ line_text (codes "call nodes") k.calls) c.new-text.ensures.bytes))))) }
