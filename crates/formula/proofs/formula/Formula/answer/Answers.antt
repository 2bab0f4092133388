use Rattle.std.proofs.Common.{◌≡◌, replicate, None}
use Rattle.formula.proofs.Keeping.{kept_none}
use Rattle.formula.proofs.formula.Formula.answer.Goals as goal

pub find-requires-clause-kept : goal.find-requires-clause-kept
find-requires-clause-kept g c = λ f _.
    let blank : c.args.memo.now ≡ replicate 256 None = c.requires.blank in
    rw blank (kept_none f 256)
