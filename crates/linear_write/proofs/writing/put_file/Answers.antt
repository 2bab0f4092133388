use Rattle.std.proofs.Common.{◌≡◌, ◌-◌, ◌++◌, refl, sym, ap, subst, ◌∙◌, arith, rules}
use Rattle.linear.specs.Equations.{Linear}
use Rattle.linear.specs.Layout.{head_words, acts_words, rate_words, section_words, words_of, file_of}
use Rattle.linear_write.specs.Laid.{laid, over}
use Rattle.linear_write.specs.Written.{Put, written, after, HasRoom}
use Rattle.linear_write.proofs.Laying.{file_laid}
use Rattle.linear_write.proofs.Putting.{made, step, room_first, room_then, file_room}
use Rattle.linear_write.proofs.writing.put_file.Goals as goal

pub put_head-requires : goal.put_head-requires
put_head-requires c =
    let e = c.args.table.now in
    let aw = section_words acts_words e.actions in
    let dw = section_words rate_words e.delays in
    let begins = c.new-writer.ensures.begins ∙ made _ c.put_header.ensures.leaves refl in
    let whole = file_room c.args.out.now (words_of e) (c.args.needed - 5) _ begins (omega arith) in
    record { room = room_first (written c.new-writer.result) (head_words e) (aw ++ dw) whole }

pub put_section-requires : goal.put_section-requires
put_section-requires c =
    let e = c.args.table.now in
    let aw = section_words acts_words e.actions in
    let dw = section_words rate_words e.delays in
    let begins = c.new-writer.ensures.begins ∙ made _ c.put_header.ensures.leaves refl in
    let whole = file_room c.args.out.now (words_of e) (c.args.needed - 5) _ begins (omega arith) in
    (omega arith, subst (λ (t : Linear). HasRoom (written c.put_head.new.self) (section_words acts_words t.actions)) (sym c.table.view_is) (room_first (written c.put_head.new.self) aw dw (room_then (written c.new-writer.result) (head_words e) (aw ++ dw) whole c.put_head.ensures.leaves)))

pub put_section-requires-2 : goal.put_section-requires-2
put_section-requires-2 c =
    let e = c.args.table.now in
    let aw = section_words acts_words e.actions in
    let dw = section_words rate_words e.delays in
    let begins = c.new-writer.ensures.begins ∙ made _ c.put_header.ensures.leaves refl in
    let whole = file_room c.args.out.now (words_of e) (c.args.needed - 5) _ begins (omega arith) in
    let acts = c.put_section.ensures.leaves ∙ ap (λ (t : Linear). after (written c.put_head.new.self) (section_words acts_words t.actions)) c.table.view_is in
    (omega arith, subst (λ (t : Linear). HasRoom (written c.put_section.new.self) (section_words rate_words t.delays)) (sym c.table.view_is) (room_then (written c.put_head.new.self) aw dw (room_then (written c.new-writer.result) (head_words e) (aw ++ dw) whole c.put_head.ensures.leaves) acts))

pub returns-clause-bytes : goal.returns-clause-bytes
returns-clause-bytes c = λ i. omega (arith, c.type_inv.out i)

pub returns-clause-leaves : goal.returns-clause-leaves
returns-clause-leaves c =
    let out = c.args.out.now in
    let e = c.args.table.now in
    let ws = words_of e in
    let aw = section_words acts_words e.actions in
    let dw = section_words rate_words e.delays in
    let n = c.args.needed - 5 in
    let begins = c.new-writer.ensures.begins ∙ made _ c.put_header.ensures.leaves refl in
    let acts = c.put_section.ensures.leaves ∙ ap (λ (t : Linear). after (written c.put_head.new.self) (section_words acts_words t.actions)) c.table.view_is in
    let rates = c.put_section-2.ensures.leaves ∙ ap (λ (t : Linear). after (written c.put_section.new.self) (section_words rate_words t.delays)) c.table.view_is in
    let ends = step (written c.new-writer.result) (head_words e) (aw ++ dw) c.put_head.ensures.leaves (step (written c.put_head.new.self) aw dw acts rates) in
    let whole : c.put_section-2.new.self.out.now ≡ over (file_of e) out =
    ap (λ (y : Put). y.out) ends ∙ (ap (λ (y : Put). laid y.out y.at ws) begins ∙ file_laid out ws n (omega arith) (omega arith)) in
    let lent = ap (λ (y : Put). y.lender) ends ∙ ap (λ (y : Put). y.lender) begins in
    search rules
