-- There is no fault just where each rule holds at each of its records. Assumes nothing.
use Rattle.std.proofs.Common.{◌≡◌, ℕ, zero, suc, ◌+◌, ◌<◌, ◌≤◌, Bool, true, List, Ok, refl, ap, ◌∙◌, ⊎_elim, arith}
use Rattle.std.proofs.lemmas.Bool.{cases_lt}
use Rattle.model_file.specs.declared.layout.Layout.{Layout}
use Rattle.model_file.specs.Fields.{variable_count, process_count, node_count}
use Rattle.model_file.proofs.Kept.{and_then_ok, and_then_made, when_ok, when_made}
use Rattle.model_file.specs.declared.fault.ModelFault.{ModelFault}
use Rattle.model_file.specs.declared.fault.ModelFault.TheVariants.{Unnamed, NotOnce, CallElsewhere, WaysDown}
use Rattle.model_rules.specs.Names.{body_named}
use Rattle.model_rules.specs.Rules.{rule_fault, first_fault, node_named, rules_fault}
use Rattle.model_rules.specs.Tallies.{node_once, variable_once, call_placed}
use Rattle.model_rules.specs.Ways.{ways_fit}

-- the rule holds at each of n records
abbrev pub All : (ℕ → Bool) → ℕ → Type 0
All holds n = (i : ℕ) → i < n → holds i ≡ true

module _ (holds : ℕ → Bool) (fault : ℕ → ModelFault) where
  from_held : (k i : ℕ) → first_fault holds fault k i ≡ Ok tt → (j : ℕ) → i ≤ j → j < i + k → holds j ≡ true
  from_held zero i h j low high = absurd (omega arith)
  from_held (suc k) i h j low high =
      let one = and_then_ok (rule_fault holds fault i) (λ _. first_fault holds fault k (i + 1)) h in
      let here = when_ok (holds i) (Ok tt) (fault i) one.1 in
      ⊎_elim (λ (lt : i < j). from_held k (i + 1) one.2 j (omega arith) (omega arith))
      (λ (le : j ≤ i). let e : j ≡ i = omega arith in ap holds e ∙ here.0) (cases_lt i j)

  from_made : (k i : ℕ) → ((j : ℕ) → i ≤ j → j < i + k → holds j ≡ true) → first_fault holds fault k i ≡ Ok tt
  from_made zero i all = refl
  from_made (suc k) i all =
      and_then_made (rule_fault holds fault i) (λ _. first_fault holds fault k (i + 1))
      (when_made (holds i) (Ok tt) (fault i) (all i (omega arith) (omega arith)) refl)
      (from_made k (i + 1) (λ j low high. all j (omega arith) (omega arith)))

  all_held : (n : ℕ) → first_fault holds fault n 0 ≡ Ok tt → All holds n
  all_held n h i low = from_held n 0 h i (omega arith) (omega arith)

  all_made : (n : ℕ) → All holds n → first_fault holds fault n 0 ≡ Ok tt
  all_made n all = from_made n 0 (λ j low high. all j (omega arith))

module _ (bs : List ℕ) (l : Layout) where
  pub record Held : Type 0 where
    pub bodies : All (body_named bs l) (process_count bs l)
    pub names : All (node_named bs l) (node_count bs l)
    pub nodes : All (node_once bs l) (node_count bs l)
    pub variables : All (variable_once bs l) (variable_count bs)
    pub calls : All (call_placed bs l) (node_count bs l)
    pub ways : All (ways_fit bs l) (node_count bs l)

  pub rules_held : rules_fault bs l ≡ Ok tt → Held
  rules_held h =
      let a = and_then_ok (first_fault (body_named bs l) (Unnamed 2) (process_count bs l) 0) _ h in
      let b = and_then_ok (first_fault (node_named bs l) (Unnamed 5) (node_count bs l) 0) _ a.2 in
      let c = and_then_ok (first_fault (node_once bs l) (NotOnce 5) (node_count bs l) 0) _ b.2 in
      let d = and_then_ok (first_fault (variable_once bs l) (NotOnce 1) (variable_count bs) 0) _ c.2 in
      let e = and_then_ok (first_fault (call_placed bs l) CallElsewhere (node_count bs l) 0) _ d.2 in
      record {
        bodies = all_held (body_named bs l) (Unnamed 2) (process_count bs l) a.1;
        names = all_held (node_named bs l) (Unnamed 5) (node_count bs l) b.1;
        nodes = all_held (node_once bs l) (NotOnce 5) (node_count bs l) c.1;
        variables = all_held (variable_once bs l) (NotOnce 1) (variable_count bs) d.1;
        calls = all_held (call_placed bs l) CallElsewhere (node_count bs l) e.1;
        ways = all_held (ways_fit bs l) WaysDown (node_count bs l) e.2;
      }

  pub rules_made : Held → rules_fault bs l ≡ Ok tt
  rules_made m =
      and_then_made (first_fault (body_named bs l) (Unnamed 2) (process_count bs l) 0) _ (all_made (body_named bs l) (Unnamed 2) (process_count bs l) m.bodies)
      (and_then_made (first_fault (node_named bs l) (Unnamed 5) (node_count bs l) 0) _ (all_made (node_named bs l) (Unnamed 5) (node_count bs l) m.names)
      (and_then_made (first_fault (node_once bs l) (NotOnce 5) (node_count bs l) 0) _ (all_made (node_once bs l) (NotOnce 5) (node_count bs l) m.nodes)
      (and_then_made (first_fault (variable_once bs l) (NotOnce 1) (variable_count bs) 0) _ (all_made (variable_once bs l) (NotOnce 1) (variable_count bs) m.variables)
      (and_then_made (first_fault (call_placed bs l) CallElsewhere (node_count bs l) 0) _ (all_made (call_placed bs l) CallElsewhere (node_count bs l) m.calls)
      (all_made (ways_fit bs l) WaysDown (node_count bs l) m.ways)))))
