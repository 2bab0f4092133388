use Rattle.std.proofs.Common.{◌++◌, length, ap, arith, length-append}
use Rattle.linear.specs.Equations.{Summand}
use Rattle.linear.specs.Layout.{guard_words, leads_words, summand_words}
use Rattle.linear.proofs.Parsed.{length_entries}
use Rattle.linear_write.proofs.lengths.span.Goals as goal

pub returns-clause-answer : goal.returns-clause-answer
returns-clause-answer g c =
    let s = c.summand.inside in
    let words = g.D.Doing.words s.does in
    let long = length_entries s.leads.entries in
    let one = length-append (guard_words s.when) (words ++ leads_words s.leads) in
    let two = length-append words (leads_words s.leads) in
    let seen = ap (λ (v : Summand g.row.D.Denot). length (summand_words g.D.Doing.words v)) c.summand.view_is in
    let when = ap (λ v. length (guard_words v.when)) c.summand-inside.view_is in
    let does = ap (λ v. length (g.D.Doing.words v.does)) c.summand-inside.view_is in
    let leads = ap (λ v. length v.leads.entries) c.summand-inside.view_is in
    omega arith
