use Rattle.std.proofs.Common.{Err, ap, ◌∙◌}
use Rattle.linear.specs.Reading.{products_in}
use Rattle.linear.specs.declared.fault.LinearFault.TheVariants.{Product}
use Rattle.linear_read.proofs.Checked.{products_first, products_second, products_all}
use Rattle.linear_read.proofs.checks.check_products.Goals as goal

pub returns-in-Some : goal.returns-in-Some
returns-in-Some c = record { answer = ap (λ p. Err (Product p)) c.place_of.ensures.answer ∙ products_first (record { sizes = c.table.inside.sizes; counters = c.table.inside.counters; first = c.table.inside.first; actions = c.table.inside.actions; delays = c.table.inside.delays }) c.in-Some.k c.in-Some.ensures.answer ∙ ap products_in c.table.view_is }

pub returns-in-Some-too_large : goal.returns-in-Some-too_large
returns-in-Some-too_large c =
    record { answer = ap (λ p. Err (Product p)) c.place_of-in-Some-too_large.ensures.answer ∙ products_second (record { sizes = c.table.inside.sizes; counters = c.table.inside.counters; first = c.table.inside.first; actions = c.table.inside.actions; delays = c.table.inside.delays }) c.in_default.ensures.answer c.in-Some-too_large.k c.in-Some-too_large.ensures.answer ∙ ap products_in c.table.view_is }

pub returns : goal.returns
returns c = record { answer = products_all (record { sizes = c.table.inside.sizes; counters = c.table.inside.counters; first = c.table.inside.first; actions = c.table.inside.actions; delays = c.table.inside.delays }) c.in_default.ensures.answer c.in_default-too_large.ensures.answer ∙ ap products_in c.table.view_is }
