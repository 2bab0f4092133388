-- The first fault of the whole file, from the first summand of each group that breaks a rule. Assumes nothing.
use Rattle.std.proofs.Common.{◌≡◌, ℕ, true, not, length, Some, None, Ok, Err, Result, sym, ap, ◌∙◌}
use Rattle.std.specs.List.{position_from}
use Rattle.std.proofs.lemmas.Bool.{cond-true}
use Rattle.linear.specs.Equations.{Linear}
use Rattle.linear.specs.Faults.{at, head}
use Rattle.linear.specs.Laws.{within, named_action, named_delay, small_sums}
use Rattle.linear.specs.Reading.{then, fails_from, named_in, products_in}
use Rattle.linear.specs.declared.fault.Group.TheVariants.{Actions, Delays}
use Rattle.linear.specs.declared.fault.LinearFault.{LinearFault}
use Rattle.linear.specs.declared.fault.LinearFault.TheVariants.{Misnamed, Product}
use Rattle.linear.proofs.Left.{fails_some, fails_none}
use Rattle.linear.proofs.Steps.{then_ok, then_err}

module _ (e : Linear) (v : ℕ) (long : v ≡ length e.sizes) (inside : within 1 e.counters e.first.counter ≡ true) where
  abbrev checks : ℕ → Result (Unit {0}) LinearFault
  checks n = then (fails_from (named_action n e.counters) Misnamed Actions 0 e.actions) (λ _. fails_from (named_delay n e.counters) Misnamed Delays 0 e.delays)

  checked : (z : Result (Unit {0}) LinearFault) → z ≡ checks v → z ≡ named_in e
  checked z h = h ∙ ap checks long ∙ sym (cond-true (within 1 e.counters e.first.counter) (checks (length e.sizes)) (Err (Misnamed head)) inside)

  pub named_first : (k : ℕ) → Some k ≡ position_from (λ s. not (named_action v e.counters s)) 0 e.actions → Err (Misnamed (at Actions k)) ≡ named_in e
  named_first k is = checked _ (then_err _ (fails_some (named_action v e.counters) Misnamed Actions e.actions k is))

  module _ (none : None ≡ position_from (λ s. not (named_action v e.counters s)) 0 e.actions) where
    pub named_second : (k : ℕ) → Some k ≡ position_from (λ s. not (named_delay v e.counters s)) 0 e.delays → Err (Misnamed (at Delays k)) ≡ named_in e
    named_second k is = checked _ (then_ok _ (fails_none (named_action v e.counters) Misnamed Actions e.actions none) (fails_some (named_delay v e.counters) Misnamed Delays e.delays k is))

    pub named_all : None ≡ position_from (λ s. not (named_delay v e.counters s)) 0 e.delays → Ok tt ≡ named_in e
    named_all is = checked _ (then_ok _ (fails_none (named_action v e.counters) Misnamed Actions e.actions none) (fails_none (named_delay v e.counters) Misnamed Delays e.delays is))

module _ (e : Linear) where
  pub products_first : (k : ℕ) → Some k ≡ position_from (λ s. not (small_sums e.sizes s)) 0 e.actions → Err (Product (at Actions k)) ≡ products_in e
  products_first k is = then_err _ (fails_some (small_sums e.sizes) Product Actions e.actions k is)

  module _ (none : None ≡ position_from (λ s. not (small_sums e.sizes s)) 0 e.actions) where
    pub products_second : (k : ℕ) → Some k ≡ position_from (λ s. not (small_sums e.sizes s)) 0 e.delays → Err (Product (at Delays k)) ≡ products_in e
    products_second k is = then_ok _ (fails_none (small_sums e.sizes) Product Actions e.actions none) (fails_some (small_sums e.sizes) Product Delays e.delays k is)

    pub products_all : None ≡ position_from (λ s. not (small_sums e.sizes s)) 0 e.delays → Ok tt ≡ products_in e
    products_all is = then_ok _ (fails_none (small_sums e.sizes) Product Actions e.actions none) (fails_none (small_sums e.sizes) Product Delays e.delays is)
