use Rattle.std.proofs.Common.{[], ◌∷◌, sym, ap, ◌∙◌, subst, ℕ, List}
use Rattle.linear.specs.Equations.{Linear}
use Rattle.linear.specs.Layout.{counted, head_words}
use Rattle.linear_write.specs.Written.{written, after, HasRoom}
use Rattle.linear_write.proofs.Putting.{step, room_first, room_then}
use Rattle.linear_write.proofs.writer.Writer.put_head.Goals as goal

pub put-requires : goal.put-requires
put-requires c =
    let t = c.table.inside in
    let vector = t.first.counter ∷ t.first.values in
    let room = subst (λ (v : Linear). HasRoom (written c.args.self.now) (head_words v)) (sym c.table.view_is) c.requires.room in
    record { room = room_first (written c.put_list.new.self) (t.counters ∷ []) vector (room_then (written c.args.self.now) (counted t.sizes) (t.counters ∷ vector) room c.put_list.ensures.leaves) }

pub put-requires-2 : goal.put-requires-2
put-requires-2 c =
    let t = c.table.inside in
    let vector = t.first.counter ∷ t.first.values in
    let room = subst (λ (v : Linear). HasRoom (written c.args.self.now) (head_words v)) (sym c.table.view_is) c.requires.room in
    record { room = room_first (written c.put.new.self) (t.first.counter ∷ []) t.first.values (room_then (written c.put_list.new.self) (t.counters ∷ []) vector (room_then (written c.args.self.now) (counted t.sizes) (t.counters ∷ vector) room c.put_list.ensures.leaves) c.put.ensures.leaves) }

pub put_words-requires : goal.put_words-requires
put_words-requires c =
    let t = c.table.inside in
    let vector = t.first.counter ∷ t.first.values in
    let first = subst (λ (v : Linear). HasRoom (written c.args.self.now) (head_words v)) (sym c.table.view_is) c.requires.room in
    let room = room_then (written c.put.new.self) (t.first.counter ∷ []) t.first.values (room_then (written c.put_list.new.self) (t.counters ∷ []) vector (room_then (written c.args.self.now) (counted t.sizes) (t.counters ∷ vector) first c.put_list.ensures.leaves) c.put.ensures.leaves) c.put-2.ensures.leaves in
    let P : List ℕ → Type 0 = λ ws. HasRoom (written c.put-2.new.self) ws in
    record { room = subst P (sym c.as_slice.ensures.answer) room }

pub returns : goal.returns
returns c =
    let t = c.table.inside in
    let vector = t.first.counter ∷ t.first.values in
    let last = c.put_words.ensures.leaves ∙ ap (after (written c.put-2.new.self)) c.as_slice.ensures.answer in
    record { leaves = step (written c.args.self.now) (counted t.sizes) (t.counters ∷ vector) c.put_list.ensures.leaves (step (written c.put_list.new.self) (t.counters ∷ []) vector c.put.ensures.leaves (step (written c.put.new.self) (t.first.counter ∷ []) t.first.values c.put-2.ensures.leaves last)) ∙ ap (λ (v : Linear). after (written c.args.self.now) (head_words v)) c.table.view_is }
