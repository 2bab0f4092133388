use Rattle.std.proofs.Common.{◌≡◌, refl}
use Rattle.model_file.specs.Layouts.{layout_of}
use Rattle.model_file.specs.Sections.{sections_fault}
use Rattle.model_file.proofs.Tested.{tested}
use Rattle.model_file.proofs.sections.check_sections.Goals as goal

pub returns : goal.returns
returns c =
    let head = c.in_ok-check_header.ensures in
    let is : c.check_in_order.result ≡ sections_fault c.args.bytes.now (layout_of c.args.bytes.now) = cc in
    let t = tested c.args.bytes.now _ head.answer (head.rules.0 refl) is in
    record { answer = t.answer; rules = t.rules }
