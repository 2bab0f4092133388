use Rattle.std.proofs.Common.{◌≡◌, ◌+◌, ◌-◌, ◌*◌, ◌/◌, ◌<◌, ◌≤◌, length, take, drop, refl, add-one, arith}
use Rattle.std.proofs.lemmas.List.{length-take}
use Rattle.table.proofs.Pairs.{pair_word}
use Rattle.table.proofs.values.values.Goals as goal

pub loop-word-preserved : goal.loop-word-preserved
loop-word-preserved c =
    let bytes = c.args.bytes.now in
    let at = c.args.at in
    let i = c.loop-word.word-index in
    let m = at + 2 * c.from.result - at in
    let n = length (take m (drop at bytes)) / 2 in
    let long : length c.as_chunks.result.0.now ≡ n = c.as_chunks.ensures.front_len in
    let within : i < n = omega arith in
    let short : 2 * n ≤ m = omega (arith, length-take m (drop at bytes)) in
    let one = pair_word bytes at m n i c.from_be_bytes.result c.as_chunks.result.0.now c.as_chunks.ensures.front within short c.from_be_bytes.ensures in
    record { count = omega arith; values = rw (c.push.ensures.items, c.loop-word.invariant.values, one, add-one i) refl }
