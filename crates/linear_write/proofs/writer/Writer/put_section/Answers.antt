use Rattle.std.proofs.Common.{◌≡◌, ◌+◌, [], ◌∷◌, length, get_or, sym, ap, ◌∙◌, Ok, arith}
use Rattle.std.specs.List.{flat_map}
use Rattle.std.proofs.lemmas.List.{take_all}
use Rattle.linear.specs.Layout.{summand_words}
use Rattle.linear_write.specs.Written.{written, after, HasRoom}
use Rattle.linear_write.proofs.Putting.{step, row_step, fits, added, add_fits, counted_one, closed}
use Rattle.linear_write.proofs.writer.Writer.put_section.Goals as goal

pub add-requires-clause-within : goal.add-requires-clause-within
add-requires-clause-within g c =
    let xs = c.args.summands.now in
    let k = c.loop-summand.summand-index in
    let x = c.summand-item.result in
    let f = summand_words g.D.Doing.words in
    let items = c.as_slice-summand-items.ensures.answer in
    let long = ap length items in
    let is : get_or xs k x ≡ x = sym (c.summand-item.is ∙ ap (λ ys. get_or ys k x) items) in
    let room : HasRoom (written c.loop-summand.self) (f x) = fits xs f (written c.args.self.now) k x (omega arith) is c.requires.room c.open-section.ensures.leaves c.loop-summand.invariant.0 in
    omega (arith, room)

pub loop-summand-preserved : goal.loop-summand-preserved
loop-summand-preserved g c =
    let xs = c.args.summands.now in
    let k = c.loop-summand.summand-index in
    let x = c.summand-item.result in
    let f = summand_words g.D.Doing.words in
    let items = c.as_slice-summand-items.ensures.answer in
    let long = ap length items in
    let is : get_or xs k x ≡ x = sym (c.summand-item.is ∙ ap (λ ys. get_or ys k x) items) in
    let inv = c.loop-summand.invariant in
    let room : HasRoom (written c.loop-summand.self) (f x) = fits xs f (written c.args.self.now) k x (omega arith) is c.requires.room c.open-section.ensures.leaves inv.0 in
    let all : c.add.result ≡ Ok tt = add_fits (written c.loop-summand.self) (f x) room c.add.ensures.answer in (
      row_step xs k x (omega arith) is f (written c.open-section.new.self) (written c.loop-summand.self) inv.0 (added (written c.loop-summand.self) (f x) room c.add.ensures.leaves),
      counted_one c.loop-summand.section.count all c.add.ensures.counts ∙ ap (λ n. n + 1) inv.1,
      c.add.ensures.place ∙ inv.2,
    )

pub returns : goal.returns
returns g c =
    let xs = c.args.summands.now in
    let items = c.as_slice-summand-items.ensures.answer in
    let long = ap length items in
    let k = c.loop-summand.summand-index in
    let f = summand_words g.D.Doing.words in
    let opened = written c.open-section.new.self in
    let inv = c.loop-summand.invariant in
    let filled = inv.0 ∙ ap (λ ys. after opened (flat_map f ys)) (take_all k xs (omega arith)) in
    record { leaves = closed (written c.args.self.now) (flat_map f xs) (length xs) (step (written c.args.self.now) (0 ∷ []) (flat_map f xs) c.open-section.ensures.leaves filled) (inv.2 ∙ c.open-section.ensures.place) (omega arith) c.close.ensures.leaves }
