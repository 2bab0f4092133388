use Rattle.std.proofs.Common.{get_or}
use Rattle.std.proofs.lemmas.List.{get_or_default}
use Rattle.linear_write.specs.Written.{written}
use Rattle.linear_write.proofs.Putting.{word_room, word_step}
use Rattle.linear_write.proofs.writer.Writer.put_words.Goals as goal

pub put-requires : goal.put-requires
put-requires c =
    let words = c.args.words.now in
    let k = c.loop-word.word-index in
    let lt = c.loop-word-test.true in
    record { room = word_room words k (get_or words k 0) lt (get_or_default words k _ _ lt) (written c.args.self.now) (written c.loop-word.self) c.loop-word.invariant c.requires.room }

pub loop-word-preserved : goal.loop-word-preserved
loop-word-preserved c =
    let words = c.args.words.now in
    let k = c.loop-word.word-index in
    let lt = c.loop-word-test.true in
    word_step words k (get_or words k 0) lt (get_or_default words k _ _ lt) (written c.args.self.now) (written c.loop-word.self) c.loop-word.invariant c.put.ensures.leaves
