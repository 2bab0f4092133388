use Rattle.std.proofs.Common.{◌∷◌, ◌++◌, length, ap, arith, length-append}
use Rattle.std.specs.List.{flat_map}
use Rattle.linear.specs.Equations.{Linear}
use Rattle.linear.specs.Layout.{counted, acts_words, rate_words, summand_words, section_words, head_words, words_of}
use Rattle.linear.proofs.Shows.{length_bytes}
use Rattle.linear_write.proofs.lengths.file_length.Goals as goal

pub returns-clause-answer : goal.returns-clause-answer
returns-clause-answer c =
    let e = c.args.table.now in
    let acting = section_words acts_words e.actions in
    let waiting = section_words rate_words e.delays in
    let bytes = length_bytes (words_of e) in
    let whole = length-append (head_words e) (acting ++ waiting) in
    let both = length-append acting waiting in
    let head = length-append (counted e.sizes) (e.counters ∷ (e.first.counter ∷ e.first.values)) in
    let sizes = ap (λ (v : Linear). length v.sizes) c.table.view_is in
    let values = ap (λ (v : Linear). length v.first.values) c.table.view_is in
    let acts = ap (λ (v : Linear). length (flat_map (summand_words acts_words) v.actions)) c.table.view_is in
    let rates = ap (λ (v : Linear). length (flat_map (summand_words rate_words) v.delays)) c.table.view_is in
    omega arith
