use Rattle.std.proofs.Common.{◌≡◌, ◌++◌, length, take, drop, replicate, sym, subst, arith}
use Rattle.std.proofs.lemmas.List.{length-replicate, length-take}
use Rattle.linear.specs.Places.{filled}
use Rattle.linear.proofs.Filling.{new_filled}
use Rattle.linear.proofs.fixed.FixedList.new.Goals as goal

pub invariant_of-result : goal.invariant_of-result
invariant_of-result g c =
    let blank = g.T.Item.blank in
    let n = c.min-count.result in
    let xs = c.copy_from_slice.new.self in
    let long : length xs ≡ n = omega (arith, c.copy_from_slice.ensures.len, length-take n (replicate g.row.MOST c.blank-places.result), length-replicate g.row.MOST c.blank-places.result) in
    (omega arith, subst (λ d. xs ++ drop n (replicate g.row.MOST d) ≡ filled blank g.row.MOST (take n (xs ++ drop n (replicate g.row.MOST d)))) (sym c.blank-places.ensures.answer) (new_filled blank g.row.MOST n xs long))
