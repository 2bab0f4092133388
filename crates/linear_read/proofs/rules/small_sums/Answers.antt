use Rattle.std.proofs.Common.{◌≡◌, ◌+◌, ◌*◌, min, length, get_or, drop, sym, ap, ◌∙◌, arith}
use Rattle.linear.specs.Laws.{product}
use Rattle.linear.proofs.Left.{product_more, product_end}
use Rattle.linear_read.proofs.rules.small_sums.Goals as goal

pub loop-variable-preserved : goal.loop-variable-preserved
loop-variable-preserved c =
    let sums = c.args.sums.now in
    let sizes = c.args.sizes.now in
    let i = c.loop-variable.variable-index in
    let t = c.loop-variable.total in
    let items = c.as_slice-variable-items.ensures.answer in
    let long = ap length items in
    let variable : c.from.result ≡ get_or sums i 0 = c.from.ensures ∙ ap (λ xs. get_or xs i 0) items in
    let size : c.from-in-loop-variable.result ≡ get_or sizes (get_or sums i 0) 1 = c.from-in-loop-variable.ensures ∙ (c.get_or-size.ensures.answer ∙ ap (λ x. get_or sizes x 1) variable) in
    let total : c.saturating_mul-total.result ≡ min (t * get_or sizes (get_or sums i 0) 1) 4294967295 = c.saturating_mul-total.ensures ∙ ap (λ s. min (t * s) 4294967295) size in
    (omega arith, c.loop-variable.invariant.1 ∙ product_more sizes sums i t (omega arith) ∙ ap (λ u. min (u * product sizes (drop (i + 1) sums)) 4294967295) (sym total))

pub returns : goal.returns
returns c =
    let long = ap length c.as_slice-variable-items.ensures.answer in
    record { answer = product_end c.args.sizes.now c.args.sums.now c.loop-variable.variable-index c.loop-variable.total (omega arith) c.loop-variable.invariant.0 c.loop-variable.invariant.1 }
