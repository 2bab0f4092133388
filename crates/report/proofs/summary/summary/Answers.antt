use Rattle.std.proofs.Common.{◌++◌, string_bytes, ap, ◌∙◌}
use Rattle.model.specs.Flat.{flat}
use Rattle.report.proofs.Summed.{summed}
use Rattle.report.proofs.summary.summary.Goals as goal

pub returns : goal.returns
returns c =
    let g = flat c.args.model.now.bytes.now in
    let parts = string_bytes c.in_ok-text.text in
    let kinds = string_bytes c.in_ok-kind_lines.field-0 in
    let pushed = c.in_ok-push_str.ensures.bytes ∙ ap (λ t. parts ++ t) c.as_str.ensures.value in
    record { answer = summed g c.count_kinds.result c.footprint.result parts kinds (string_bytes c.push_str.new.self) (string_bytes c.put_line.new.text) c.in_ok-text.ensures.answer c.in_ok-kind_lines.ensures.answer c.count_kinds.ensures.answer pushed c.footprint.ensures.answer c.in_ok-put_line.ensures.leaves }
