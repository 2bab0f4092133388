use Rattle.std.proofs.Common.{string_bytes}
use Rattle.report.proofs.Summed.{accepted}
use Rattle.report.proofs.summary.model_report.Goals as goal

pub returns-clause-answer : goal.returns-clause-answer
returns-clause-answer c = accepted c.args.bytes.now c.open.result.bytes.now c.accept.new.into.bytes.now (string_bytes c.in_ok-summary.field-0) c.in_ok-accept.ensures.answer c.open.ensures.answer c.in_ok-accept.ensures.leaves c.in_ok-summary.ensures.answer
