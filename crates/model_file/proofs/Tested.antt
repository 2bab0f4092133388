-- The sections have no fault just where the file is within its limits. Assumes nothing.
use Rattle.std.proofs.Common.{◌≡◌, ℕ, ◌+◌, ◌*◌, ◌<◌, ◌≤◌, Bool, true, cond, eqb, ltb, leb, List, length, drop, Ok, Err, Result, sym, refl, ap, ◌∙◌, ⊎_elim, arith}
use Rattle.std.proofs.lemmas.Bool.{cases_eq, and_parts, and_from, leb-true, le-leb, ltb-true, lt-ltb, le-ltb, eqb-true, eq-eqb}
use Rattle.std.proofs.lemmas.Bool.Decides.{nat_tests}
use Rattle.words.specs.Words.{word_at}
use Rattle.words.specs.Headers.{headed, header_of, Iff}
use Rattle.model_file.specs.declared.fault.ModelFault.{ModelFault}
use Rattle.model_file.specs.declared.fault.ModelFault.TheVariants.{Cut, Limit}
use Rattle.model_file.specs.declared.layout.Layout.{Layout}
use Rattle.model_file.specs.declared.part.Part.{Part}
use Rattle.model_file.specs.declared.part.Part.TheVariants.{Size, Process, Value, Arity, Node, Argument}
use Rattle.model_file.specs.Faults.{and_then, or_fault}
use Rattle.model_file.specs.Fields.{variable_count, size_of, process_count, first_of, number_of, start_of, value_of, action_count, arity_of, node_count, argument_count}
use Rattle.model_file.specs.Layouts.{layout_of, size_at, end_at}
use Rattle.model_file.specs.Limits.{Run, Limits, InLimits}
use Rattle.model_file.specs.Sections.{run_fits, records_fault, section_fault, start_fault, sections_fault, sectioned}
use Rattle.model_file.proofs.Kept.{and_then_ok, and_then_made, unless_ok, unless_made, when_ok, when_made, KeptFrom, records_kept, records_made, section_kept, section_made}
use Rattle.model_file.proofs.Located.{Laid, laid}

pub run_kept : (total first number : ℕ) → run_fits total first number ≡ true → Run total first number
run_kept total first number h = (λ e. grind (arith, nat_tests), λ e. grind (arith, nat_tests))

pub run_made : (total first number : ℕ) → Run total first number → run_fits total first number ≡ true
run_made total first number (none, some) =
    ⊎_elim (λ (e : number ≡ 0). let z = none e in grind (arith, nat_tests))
    (λ (e : number ≡ 0 → ⊥). let z = some (omega arith) in grind (arith, nat_tests)) (cases_eq number 0)

module _ (bs : List ℕ) (l : Layout) where
  abbrev sizes : Part
  sizes = Value (size_at (first_of bs l (start_of bs l)))

  abbrev values : Result (Unit {0}) ModelFault
  values = records_fault bs sizes (number_of bs l (start_of bs l)) 0 (l.start + 2)

  abbrev starts : Bool
  starts = ltb (start_of bs l) (process_count bs l)

  start_kept : start_fault bs l ≡ Ok tt → (start_of bs l < process_count bs l) × KeptFrom bs sizes (number_of bs l (start_of bs l)) 0 (l.start + 2)
  start_kept h =
      let one = unless_ok (ltb (length bs) (l.start + 2)) (cond starts values (Err (Limit 3 0))) (Cut 3 0) h in
      let two = when_ok starts values (Limit 3 0) one.1 in
      (ltb-true (start_of bs l) (process_count bs l) two.0, records_kept bs sizes (number_of bs l (start_of bs l)) 0 (l.start + 2) two.1)

  start_made : l.start + 2 + 2 * number_of bs l (start_of bs l) ≤ length bs → start_of bs l < process_count bs l
      → KeptFrom bs sizes (number_of bs l (start_of bs l)) 0 (l.start + 2) → start_fault bs l ≡ Ok tt
  start_made fit low kept =
      unless_made (ltb (length bs) (l.start + 2)) (cond starts values (Err (Limit 3 0))) (Cut 3 0) (le-ltb (length bs) (l.start + 2) (omega arith))
      (when_made starts values (Limit 3 0) (lt-ltb (start_of bs l) (process_count bs l) low)
      (records_made bs sizes (number_of bs l (start_of bs l)) 0 (l.start + 2) fit kept))

  -- an action's limit, by its number
  arity_kept : (a n : ℕ) → cond (eqb (0 + a) 0) (eqb n 0) (leb n 4) ≡ true → n ≤ 4
  arity_kept a n h = grind (arith, nat_tests)

  arity_made : (a n : ℕ) → (a ≡ 0 → n ≡ 0) → n ≤ 4 → cond (eqb (0 + a) 0) (eqb n 0) (leb n 4) ≡ true
  arity_made a n none few =
      ⊎_elim (λ (e : a ≡ 0). let z = none e in grind (arith, nat_tests))
      (λ (e : a ≡ 0 → ⊥). grind (arith, nat_tests)) (cases_eq a 0)

  size_at_lem : (k : ℕ) → word_at bs (size_at (first_of bs l (start_of bs l)) + 2 * (0 + k)) ≡ size_of bs (first_of bs l (start_of bs l) + k)
  size_at_lem k = ap (word_at bs) (omega arith)

  pub sections_kept : bs ≡ headed (drop 5 bs) → sections_fault bs l ≡ Ok tt → Limits bs l
  sections_kept head h =
      let one = and_then_ok (section_fault bs Size 5) _ h in
      let two = and_then_ok (section_fault bs (Process (word_at bs 5)) l.processes) _ one.2 in
      let three = and_then_ok (start_fault bs l) _ two.2 in
      let four = and_then_ok (section_fault bs Arity l.actions) _ three.2 in
      let five = and_then_ok (section_fault bs Node l.nodes) _ four.2 in
      let six = and_then_ok (section_fault bs Argument l.arguments) _ five.2 in
      let last = when_ok (eqb (end_at bs l) (length bs)) (Ok tt) (Cut 0 0) six.2 in
      let k1 = section_kept bs Size 5 one.1 in
      let k2 = section_kept bs (Process (word_at bs 5)) l.processes two.1 in
      let k3 = start_kept three.1 in
      let k4 = section_kept bs Arity l.actions four.1 in
      let k5 = section_kept bs Node l.nodes five.1 in
      let k6 = section_kept bs Argument l.arguments six.1 in
      record {
        header = head;
        variables = k1.count.1;
        sizes = λ v low. let q = and_parts (leb 1 (size_of bs v)) (leb (size_of bs v) 256) (k1.records v low) in (leb-true 1 (size_of bs v) q.0, leb-true (size_of bs v) 256 q.1);
        processes = k2.count;
        parameters = λ i low. let q = and_parts (leb (number_of bs l i) 8) (run_fits (word_at bs 5) (first_of bs l i) (number_of bs l i)) (k2.records i low) in (leb-true (number_of bs l i) 8 q.0, run_kept (word_at bs 5) (first_of bs l i) (number_of bs l i) q.1);
        start = k3.0;
        values = λ k low. ltb-true (value_of bs l k) (size_of bs (first_of bs l (start_of bs l) + k)) (ap (ltb (value_of bs l k)) (sym (size_at_lem k)) ∙ k3.1 k low);
        actions = k4.count;
        internal = eqb-true (arity_of bs l 0) 0 (k4.records 0 k4.count.0);
        arities = λ a low. arity_kept a (arity_of bs l a) (k4.records a low);
        nodes = k5.count;
        arguments = k6.count.1;
        whole = eqb-true (end_at bs l) (length bs) last.0;
      }

  -- each section ends where the next begins, and the last at the end
  record Room : Type 0 where
    variables : 7 + 2 * variable_count bs ≤ length bs
    processes : l.processes + 2 + 6 * process_count bs l ≤ length bs
    start : l.start + 2 + 2 * number_of bs l (start_of bs l) ≤ length bs
    actions : l.actions + 2 + 2 * action_count bs l ≤ length bs
    nodes : l.nodes + 2 + 12 * node_count bs l ≤ length bs
    arguments : l.arguments + 2 + 2 * argument_count bs l ≤ length bs

  room : Laid bs l → end_at bs l ≡ length bs → Room
  room laid whole =
      let e1 = laid.processes in
      let e2 = laid.start in
      let e3 = laid.actions in
      let e4 = laid.nodes in
      let e5 = laid.arguments in
      let r6 : l.arguments + 2 + 2 * argument_count bs l ≤ length bs = omega arith in
      let r5 : l.nodes + 2 + 12 * node_count bs l ≤ length bs = omega arith in
      let r4 : l.actions + 2 + 2 * action_count bs l ≤ length bs = omega arith in
      let r3 : l.start + 2 + 2 * number_of bs l (start_of bs l) ≤ length bs = omega arith in
      let r2 : l.processes + 2 + 6 * process_count bs l ≤ length bs = omega arith in
      record { variables = omega arith; processes = r2; start = r3; actions = r4; nodes = r5; arguments = r6 }

  pub sections_made : Laid bs l → Limits bs l → sections_fault bs l ≡ Ok tt
  sections_made laid m =
      let space = room laid m.whole in
      let s1 = section_made bs Size 5 space.variables (record { count = (omega arith, m.variables); records = λ v low. and_from _ _ (le-leb 1 (size_of bs v) (m.sizes v low).0) (le-leb (size_of bs v) 256 (m.sizes v low).1) }) in
      let s2 = section_made bs (Process (word_at bs 5)) l.processes space.processes (record { count = m.processes; records = λ i low. and_from _ _ (le-leb (number_of bs l i) 8 (m.parameters i low).0) (run_made (word_at bs 5) (first_of bs l i) (number_of bs l i) (m.parameters i low).1) }) in
      let s3 = start_made space.start m.start (λ k low. ap (ltb (value_of bs l k)) (size_at_lem k) ∙ lt-ltb (value_of bs l k) (size_of bs (first_of bs l (start_of bs l) + k)) (m.values k low)) in
      let s4 = section_made bs Arity l.actions space.actions (record { count = m.actions; records = λ a low. arity_made a (arity_of bs l a) (λ e. ap (arity_of bs l) e ∙ m.internal) (m.arities a low) }) in
      let s5 = section_made bs Node l.nodes space.nodes (record { count = m.nodes; records = λ n low. refl }) in
      let s6 = section_made bs Argument l.arguments space.arguments (record { count = (omega arith, m.arguments); records = λ n low. refl }) in
      let s7 = when_made (eqb (end_at bs l) (length bs)) (Ok tt) (Cut 0 0) (eq-eqb (end_at bs l) (length bs) m.whole) refl in
      and_then_made (section_fault bs Size 5) _ s1
      (and_then_made (section_fault bs (Process (word_at bs 5)) l.processes) _ s2
      (and_then_made (start_fault bs l) _ s3
      (and_then_made (section_fault bs Arity l.actions) _ s4
      (and_then_made (section_fault bs Node l.nodes) _ s5
      (and_then_made (section_fault bs Argument l.arguments) _ s6 s7)))))

-- what the clauses of a test of the sections say together
pub record Tested (bs : List ℕ) (r : Result (Unit {0}) ModelFault) : Type 0 where
  pub answer : r ≡ sectioned bs
  pub rules : Iff (r ≡ Ok tt) (InLimits bs)

pub tested : (bs : List ℕ) (r : Result (Unit {0}) ModelFault) → Ok tt ≡ header_of bs → bs ≡ headed (drop 5 bs) → r ≡ sections_fault bs (layout_of bs) → Tested bs r
tested bs r head whole is =
    record {
      answer = is ∙ ap (λ h. and_then (or_fault h) (λ _. sections_fault bs (layout_of bs))) head;
      rules = (λ ok. sections_kept bs (layout_of bs) whole (sym is ∙ ok), λ m. is ∙ sections_made bs (layout_of bs) (laid bs) m);
    }
