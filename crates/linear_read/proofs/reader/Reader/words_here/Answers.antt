use Rattle.std.proofs.Common.{◌≡◌, ◌+◌, ◌-◌, ◌*◌, ◌/◌, ◌<◌, ◌≤◌, [], ◌∷◌, ◌++◌, length, take, drop, sym, ap, subst, ◌∙◌, arith}
use Rattle.std.proofs.lemmas.List.{length-drop, length-set, length-take, take_all, take_more_set}
use Rattle.linear.specs.Reading.{words_from}
use Rattle.linear.proofs.Words.{words_more}
use Rattle.linear_read.specs.Spots.{Spot}
use Rattle.linear_read.proofs.Chunks.{two_word}
use Rattle.linear_read.proofs.reader.Reader.words_here.Goals as goal

pub loop-k-preserved : goal.loop-k-preserved
loop-k-preserved c =
    let bytes = c.self.inside.bytes.now in
    let at = c.self.inside.at in
    let k = c.loop-k.k in
    let m = at + 2 * c.args.count - at in
    let n = length (take m (drop at bytes)) / 2 in
    let long : length c.as_chunks.result.0.now ≡ n = c.as_chunks.ensures.front_len in
    let within : k < n = omega arith in
    let short : 2 * n ≤ m = omega (arith, length-take m (drop at bytes)) in
    let word = c.from_be_bytes.result in
    let one = two_word bytes at m n k word c.as_chunks.result.0.now c.as_chunks.ensures.front within short c.from_be_bytes.ensures in
    let before : take k c.loop-k.items ≡ words_from bytes at k = c.loop-k.invariant.words ∙ sym (ap (λ (s : Spot). words_from s.bytes s.at k) c.self.view_is) in
    let place : k < length c.loop-k.items = omega (arith, c.loop-k.invariant.places, within, short, c.requires.few) in
    record {
      places = length-set c.loop-k.items k word ∙ c.loop-k.invariant.places;
      words =
          take_more_set c.loop-k.items k word place
          ∙ ap (λ ys. ys ++ word ∷ []) before
          ∙ ap (λ w. words_from bytes at k ++ w ∷ []) one
          ∙ sym (words_more bytes at k)
          ∙ ap (λ (s : Spot). words_from s.bytes s.at (k + 1)) c.self.view_is;
    }

pub returns-clause-answer : goal.returns-clause-answer
returns-clause-answer c =
    let bytes = c.self.inside.bytes.now in
    let at = c.self.inside.at in
    let n = c.args.count in
    let items = c.loop-k.items in
    let room : at + 2 * n ≤ length bytes = subst (λ (s : Spot). s.at + 2 * n ≤ length s.bytes) (sym c.self.view_is) c.requires.room in
    let m = at + 2 * n - at in
    let long : length c.as_chunks.result.0.now ≡ length (take m (drop at bytes)) / 2 = c.as_chunks.ensures.front_len in
    let ended : c.loop-k.k ≡ n = omega (arith, long, room, length-take m (drop at bytes), length-drop at bytes, c.loop-k-test.false) in
    let all : c.new.result ≡ take n items = c.new.ensures.answer ∙ take_all 16 (take n items) (omega (arith, length-take n items, c.loop-k.invariant.places)) in
    all ∙ ap (λ i. take i items) (sym ended) ∙ c.loop-k.invariant.words ∙ ap (words_from c.args.self.now.bytes c.args.self.now.at) ended

pub returns-clause-long : goal.returns-clause-long
returns-clause-long c =
    let items = c.loop-k.items in
    let n = c.args.count in
    let all : c.new.result ≡ take n items = c.new.ensures.answer ∙ take_all 16 (take n items) (omega (arith, length-take n items, c.loop-k.invariant.places)) in
    omega (arith, ap length all, length-take n items, c.loop-k.invariant.places, c.requires.few)
