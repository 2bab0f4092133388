use Rattle.model_file.proofs.Located.{located}
use Rattle.model_file.proofs.layout.locate.Goals as goal

pub returns : goal.returns
returns c = record { answer = located c.args.bytes.now _ _ _ _ _ _ c.count_at.ensures.answer c.count_at-2.ensures.answer c.count_at-process.ensures.answer c.count_at-3.ensures.answer c.count_at-4.ensures.answer c.count_at-5.ensures.answer }
