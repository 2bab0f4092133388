use Rattle.std.proofs.Common.{◌≡◌, ◌+◌, ◌-◌, [], ◌∷◌, ◌++◌, length, sym, refl, ap, ◌∙◌, arith, length-append}
use Rattle.std.proofs.lemmas.Result.{err_from_is_err_and}
use Rattle.linear.specs.Reading.{summands_from}
use Rattle.linear.proofs.Sections.{summands_more, summands_stop}
use Rattle.linear_read.specs.Spots.{Spot}
use Rattle.linear_read.proofs.Composed.{match_err}
use Rattle.linear_read.proofs.reader.Reader.summands.Goals as goal

pub returns-in_err-summand-clause-answer : goal.returns-in_err-summand-clause-answer
returns-in_err-summand-clause-answer g c =
    let here = c.loop-k.self in
    let p = err_from_is_err_and c.from_residual.result c.from_residual.ensures.1 in
    let stop = summands_stop g.D.Part.part_in g.D.Doing.words here.bytes here.variables c.args.group c.args.count c.loop-k.k here.at _ _ c.loop-k-test.true c.in_err-summand.ensures.answer in
    match_err _ _ p.1 p.2 (sym c.loop-k.invariant.3 ∙ stop)

pub loop-k-preserved : goal.loop-k-preserved
loop-k-preserved g c =
    let reads = g.D.Part.part_in in
    let words = g.D.Doing.words in
    let n = c.args.count in
    let k = c.loop-k.k in
    let here = c.loop-k.self in
    let ss = c.loop-k.items in
    let summand = c.in_ok-summand.summand in
    let pushed : c.push.new.self ≡ ss ++ summand ∷ [] = c.push.ensures.room (omega (arith, c.loop-k.invariant.0, c.loop-k-test.true, c.requires.few)) in
    let moves = c.in_ok-summand.ensures.moves in (
      ap length pushed ∙ length-append ss (summand ∷ []) ∙ ap (λ m. m + 1) c.loop-k.invariant.0,
      ap (λ (s : Spot). s.bytes) moves ∙ c.loop-k.invariant.1,
      ap (λ (s : Spot). s.variables) moves ∙ c.loop-k.invariant.2,
      ap (λ (s : Spot). summands_from reads words s.bytes s.variables c.args.group (n - (k + 1)) (k + 1) s.at c.push.new.self) moves
          ∙ ap (summands_from reads words here.bytes here.variables c.args.group (n - (k + 1)) (k + 1) _) pushed
          ∙ summands_more reads words here.bytes here.variables c.args.group n k here.at _ c.loop-k.items c.in_ok-summand.summand c.loop-k-test.true c.in_ok-summand.ensures.answer (refl)
          ∙ c.loop-k.invariant.3,
    )
