-- Sums and first faults over records, one record at a time. Assumes nothing.
use Rattle.std.proofs.Common.{◌≡◌, ℕ, suc, ◌+◌, ◌-◌, ◌<◌, Bool, true, false, cond, List, Ok, Err, Result, sym, ap, ◌∙◌, arith}
use Rattle.model_file.specs.declared.fault.ModelFault.{ModelFault}
use Rattle.model_file.specs.declared.fault.ModelFault.TheVariants.{Unnamed, NotOnce, CallElsewhere, WaysDown}
use Rattle.model_file.specs.declared.layout.Layout.{Layout}
use Rattle.model_file.specs.Faults.{and_then}
use Rattle.model_file.specs.Fields.{variable_count, process_count, node_count}
use Rattle.model_rules.specs.Names.{body_named}
use Rattle.model_rules.specs.Rules.{first_fault, node_named, rules_fault}
use Rattle.model_rules.specs.Tallies.{total, node_once, variable_once, call_placed}
use Rattle.model_rules.specs.Ways.{ways_fit}

pub total_here : (f : ℕ → ℕ) (n i : ℕ) → i < n → total f (n - i) i ≡ f i + total f (n - (i + 1)) (i + 1)
total_here f n i h =
    let e : n - i ≡ suc (n - (i + 1)) = omega arith in
    ap (λ k. total f k i) e

module _ (holds : ℕ → Bool) (fault : ℕ → ModelFault) where
  abbrev answered : Bool → ℕ → Result (Unit {0}) ModelFault
  answered b i = cond b (Ok tt) (Err (fault i))

  abbrev looked : Bool → ℕ → Result (Unit {0}) ModelFault → Result (Unit {0}) ModelFault
  looked b i rest = and_then (answered b i) (λ _. rest)

  -- record i is looked at first
  first_here : (n i : ℕ) → i < n → first_fault holds fault (n - i) i ≡ looked (holds i) i (first_fault holds fault (n - (i + 1)) (i + 1))
  first_here n i low =
      let e : n - i ≡ suc (n - (i + 1)) = omega arith in
      ap (λ k. first_fault holds fault k i) e

  pub first_more : (n i : ℕ) → i < n → holds i ≡ true → first_fault holds fault (n - i) i ≡ first_fault holds fault (n - (i + 1)) (i + 1)
  first_more n i low h = first_here n i low ∙ ap (λ b. looked b i (first_fault holds fault (n - (i + 1)) (i + 1))) h

  pub first_found : (n i : ℕ) → i < n → holds i ≡ false → first_fault holds fault (n - i) i ≡ Err (fault i)
  first_found n i low h = first_here n i low ∙ ap (λ b. looked b i (first_fault holds fault (n - (i + 1)) (i + 1))) h

  -- an answer of n records, where n is the count of a section
  pub first_is : {r : Result (Unit {0}) ModelFault} (n m : ℕ) → r ≡ first_fault holds fault n 0 → n ≡ m → r ≡ first_fault holds fault m 0
  first_is n m is e = is ∙ ap (λ k. first_fault holds fault k 0) e

and_then_on : {X Y : Type 0} (r : Result X ModelFault) (go : X → Result Y ModelFault) {x : X} → Ok x ≡ r → and_then r go ≡ go x
and_then_on r go e = ap (λ q. and_then q go) (sym e)

-- the rules from the fifth on, where the first four have no fault
pub from_calls : (bs : List ℕ) (l : Layout)
    → Ok tt ≡ first_fault (body_named bs l) (Unnamed 2) (process_count bs l) 0
    → Ok tt ≡ first_fault (node_named bs l) (Unnamed 5) (node_count bs l) 0
    → Ok tt ≡ first_fault (node_once bs l) (NotOnce 5) (node_count bs l) 0
    → Ok tt ≡ first_fault (variable_once bs l) (NotOnce 1) (variable_count bs) 0
    → rules_fault bs l ≡ and_then (first_fault (call_placed bs l) CallElsewhere (node_count bs l) 0) (λ _. first_fault (ways_fit bs l) WaysDown (node_count bs l) 0)
from_calls bs l bodies names nodes variables =
    and_then_on (first_fault (body_named bs l) (Unnamed 2) (process_count bs l) 0) _ bodies
    ∙ and_then_on (first_fault (node_named bs l) (Unnamed 5) (node_count bs l) 0) _ names
    ∙ and_then_on (first_fault (node_once bs l) (NotOnce 5) (node_count bs l) 0) _ nodes
    ∙ and_then_on (first_fault (variable_once bs l) (NotOnce 1) (variable_count bs) 0) _ variables
