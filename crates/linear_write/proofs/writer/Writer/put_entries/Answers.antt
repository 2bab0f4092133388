use Rattle.std.proofs.Common.{get_or}
use Rattle.std.proofs.lemmas.List.{get_or_default}
use Rattle.linear.specs.Layout.{entry_words}
use Rattle.linear.specs.declared.entry.Entry.TheVariants.{Reset}
use Rattle.linear_write.specs.Written.{written}
use Rattle.linear_write.proofs.Putting.{row_room, row_step}
use Rattle.linear_write.proofs.writer.Writer.put_entries.Goals as goal

pub put_entry-requires : goal.put_entry-requires
put_entry-requires c =
    let entries = c.args.entries.now in
    let k = c.loop-entry.entry-index in
    let lt = c.loop-entry-test.true in
    record { room = row_room entries k (get_or entries k Reset) lt (get_or_default entries k _ _ lt) entry_words (written c.args.self.now) (written c.loop-entry.self) c.loop-entry.invariant c.requires.room }

pub loop-entry-preserved : goal.loop-entry-preserved
loop-entry-preserved c =
    let entries = c.args.entries.now in
    let k = c.loop-entry.entry-index in
    let lt = c.loop-entry-test.true in
    row_step entries k (get_or entries k Reset) lt (get_or_default entries k _ _ lt) entry_words (written c.args.self.now) (written c.loop-entry.self) c.loop-entry.invariant c.put_entry.ensures.leaves
