use Rattle.std.proofs.Common.{◌≡◌, ◌+◌, ◌-◌, ◌*◌, [], ◌∷◌, ◌++◌, length, Ok, sym, ap, ◌∙◌, arith, length-append}
use Rattle.linear.specs.Faults.{head}
use Rattle.linear.specs.Reading.{word_in, kept_from}
use Rattle.linear.proofs.Sections.{kept_more}
use Rattle.linear_read.specs.Spots.{Spot, to}
use Rattle.linear_read.proofs.reader.Reader.kept_words.Goals as goal

pub loop-k-preserved : goal.loop-k-preserved
loop-k-preserved g c =
    let rule = g.K.HeadRule.rule c.args.rule.now in
    let n = c.args.count in
    let k = c.loop-k.k in
    let first = c.args.self.now in
    let here = c.loop-k.self in
    let word = c.in_ok-word.word in
    let there : here.place ≡ head = ap (λ (s : Spot). s.place) c.loop-k.invariant.1 ∙ c.requires.place in
    let is : Ok word ≡ word_in here.bytes head here.at = c.in_ok-word.ensures.answer ∙ ap (λ q. word_in here.bytes q here.at) there in
    let ws = c.loop-k.items in
    let pushed : c.push.new.self ≡ ws ++ word ∷ [] = c.push.ensures.room (omega (arith, c.loop-k.invariant.0, c.loop-k-test.true, c.requires.few)) in
    let end : first.at + 2 * k + 2 ≡ first.at + 2 * (k + 1) = omega arith in (
      ap length pushed ∙ length-append ws (word ∷ []) ∙ ap (λ m. m + 1) c.loop-k.invariant.0,
      c.in_ok-word.ensures.moves ∙ ap (λ (s : Spot). to s (s.at + 2)) c.loop-k.invariant.1 ∙ ap (to first) end,
      ap (λ (s : Spot). kept_from rule s.bytes (n - (k + 1)) (k + 1) s.at c.push.new.self) c.in_ok-word.ensures.moves
          ∙ ap (kept_from rule here.bytes (n - (k + 1)) (k + 1) (here.at + 2)) pushed
          ∙ kept_more rule here.bytes n k here.at c.loop-k.items word c.loop-k-test.true is (sym c.keeps.ensures.answer ∙ c.if-not-keeps.false)
          ∙ c.loop-k.invariant.2,
    )
