use Rattle.source.proofs.InWords.{lists_all, starts}
use Rattle.source.proofs.rules.rules_stand.Goals as goal

pub returns : goal.returns
returns c = record { rules = lists_all; starts = λ L m. starts L m }
