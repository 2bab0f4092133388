use Rattle.std.proofs.Common.{Err, sym, ap, ◌∙◌}
use Rattle.linear.specs.Reading.{named_in}
use Rattle.linear.specs.declared.fault.LinearFault.TheVariants.{Misnamed}
use Rattle.linear_read.proofs.Checked.{named_first, named_second, named_all}
use Rattle.linear_read.proofs.checks.check_names.Goals as goal

pub returns-in-Some : goal.returns-in-Some
returns-in-Some c =
    record { answer = ap (λ p. Err (Misnamed p)) c.place_of.ensures.answer ∙ named_first (record { sizes = c.table.inside.sizes; counters = c.table.inside.counters; first = c.table.inside.first; actions = c.table.inside.actions; delays = c.table.inside.delays }) c.len.result c.len.ensures.answer (sym c.has_counter.ensures.answer ∙ c.if-not-has_counter.false) c.in-Some.k c.in-Some.ensures.answer ∙ ap named_in c.table.view_is }

pub returns-in-Some-misnamed : goal.returns-in-Some-misnamed
returns-in-Some-misnamed c =
    record { answer = ap (λ p. Err (Misnamed p)) c.place_of-in-Some-misnamed.ensures.answer ∙ named_second (record { sizes = c.table.inside.sizes; counters = c.table.inside.counters; first = c.table.inside.first; actions = c.table.inside.actions; delays = c.table.inside.delays }) c.len.result c.len.ensures.answer (sym c.has_counter.ensures.answer ∙ c.if-not-has_counter.false) c.in_default.ensures.answer c.in-Some-misnamed.k c.in-Some-misnamed.ensures.answer ∙ ap named_in c.table.view_is }

pub returns : goal.returns
returns c =
    record { answer = named_all (record { sizes = c.table.inside.sizes; counters = c.table.inside.counters; first = c.table.inside.first; actions = c.table.inside.actions; delays = c.table.inside.delays }) c.len.result c.len.ensures.answer (sym c.has_counter.ensures.answer ∙ c.if-not-has_counter.false) c.in_default.ensures.answer c.in_default-misnamed.ensures.answer ∙ ap named_in c.table.view_is }
