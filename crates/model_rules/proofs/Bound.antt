-- A variable is bound once just where the tally says so. Assumes nothing.
use Rattle.std.proofs.Common.{◌≡◌, ℕ, ◌+◌, ◌<◌, ◌≤◌, true, ◌&&◌, ltb, leb, List, Some, None, Option, sym, refl, ap, ◌∙◌, ⊎_elim, arith}
use Rattle.std.proofs.lemmas.Bool.{cases_eq, eqb-true, eq-eqb}
use Rattle.std.proofs.lemmas.Bool.Decides.{nat_tests}
use Rattle.model_file.specs.declared.layout.Layout.{Layout}
use Rattle.model_file.specs.Fields.{process_count, first_of, number_of, node_count}
use Rattle.model_rules.specs.Shapes.{Shape, shape_at}
use Rattle.model_rules.specs.declared.shape.Shape.TheVariants.{Call, Condition, Choice, Sum, Action, Delay}
use Rattle.model_rules.specs.Sound.{Once, Binder, parameter, node, Bound, Binds}
use Rattle.model_rules.specs.Tallies.{one, binders, parameter_share, binder_share, total, variable_once}
use Rattle.model_rules.proofs.Counts.{one_given, one_is, total_zero, total_none, Single, total_one, total_single}
use Rattle.model_rules.proofs.Decoded.{is_node, shape_is}

parameter_same : {i j : ℕ} → parameter i ≡ parameter j → i ≡ j
parameter_same e = cc

node_same : {m k : ℕ} → node m ≡ node k → m ≡ k
node_same e = cc

apart : {i m : ℕ} → node m ≡ parameter i → ⊥
apart e = cc

run_one : (f k v : ℕ) → f ≤ v → v < f + k → one (leb f v && ltb v (f + k)) ≡ 1
run_one f k v low high = grind (arith, nat_tests)

run_is : (f k v : ℕ) → 0 < one (leb f v && ltb v (f + k)) → (f ≤ v) × (v < f + k)
run_is f k v h = (grind (arith, nat_tests), grind (arith, nat_tests))

run_none : (f k v : ℕ) → ((f ≤ v) × (v < f + k) → ⊥) → one (leb f v && ltb v (f + k)) ≡ 0
run_none f k v none =
    ⊎_elim (λ (e : one (leb f v && ltb v (f + k)) ≡ 0). e)
    (λ (ne : one (leb f v && ltb v (f + k)) ≡ 0 → ⊥). absurd (none (run_is f k v (omega arith)))) (cases_eq (one (leb f v && ltb v (f + k))) 0)

binder_one : (v : ℕ) (s : Shape) → Bound s v → binders v (Some s) ≡ 1
binder_one v (Call p f) h = absurd h
binder_one v (Condition x c) h = absurd h
binder_one v (Choice x y) h = absurd h
binder_one v (Sum u c) h = one_given u v h
binder_one v (Action a f u w c) h = one_given u v h
binder_one v (Delay r c) h = absurd h

binder_is : (v : ℕ) (s : Shape) → 0 < binders v (Some s) → Bound s v
binder_is v (Call p f) h = absurd (omega arith)
binder_is v (Condition x c) h = absurd (omega arith)
binder_is v (Choice x y) h = absurd (omega arith)
binder_is v (Sum u c) h = one_is u v h
binder_is v (Action a f u w c) h = one_is u v h
binder_is v (Delay r c) h = absurd (omega arith)

binder_there : (v : ℕ) (o : Option Shape) → 0 < binders v o → (s : Shape) × (o ≡ Some s) × Bound s v
binder_there v None h = absurd (omega arith)
binder_there v (Some s) h = (s, refl, binder_is v s h)

module _ (bs : List ℕ) (l : Layout) (v : ℕ) where
  abbrev parameters : ℕ → ℕ
  parameters = parameter_share bs l v

  abbrev nodes : ℕ → ℕ
  nodes = binder_share bs l v

  parameter_one : (i : ℕ) → Binds bs l v (parameter i) → parameters i ≡ 1
  parameter_one i (there, low, high) = run_one (first_of bs l i) (number_of bs l i) v low high

  parameter_none : (i : ℕ) → i < process_count bs l → (Binds bs l v (parameter i) → ⊥) → parameters i ≡ 0
  parameter_none i there none = run_none (first_of bs l i) (number_of bs l i) v (λ q. none (there, q.0, q.1))

  node_one : (m : ℕ) → Binds bs l v (node m) → nodes m ≡ 1
  node_one m (s, is, h) = ap (binders v) (shape_is bs l m s is) ∙ binder_one v s h

  node_binds : (m : ℕ) → m < node_count bs l → 0 < nodes m → Binds bs l v (node m)
  node_binds m low h = let q = binder_there v (shape_at bs l m) h in (q.0, is_node bs l m q.0 low q.1, q.2)

  node_none : (m : ℕ) → m < node_count bs l → (Binds bs l v (node m) → ⊥) → nodes m ≡ 0
  node_none m low none =
      ⊎_elim (λ (e : nodes m ≡ 0). e) (λ (ne : nodes m ≡ 0 → ⊥). absurd (none (node_binds m low (omega arith)))) (cases_eq (nodes m) 0)

  -- one of two counts is 1 and the other 0
  only_parameter : (q : Single parameters (process_count bs l) 0) → total nodes (node_count bs l) 0 ≡ 0 → (x : Binder) → Binds bs l v x → x ≡ parameter q.at
  only_parameter q none (parameter i) st =
      ⊎_elim (λ (e : i ≡ q.at). ap parameter e)
      (λ (ne : i ≡ q.at → ⊥). let a = q.others i (omega arith) (omega (arith, st.0)) ne in let b = parameter_one i st in absurd (omega arith)) (cases_eq i q.at)
  only_parameter q none (node m) st = let a = total_zero nodes (node_count bs l) 0 none m (omega arith) (omega (arith, st.1.0)) in let b = node_one m st in absurd (omega arith)

  only_node : (q : Single nodes (node_count bs l) 0) → total parameters (process_count bs l) 0 ≡ 0 → (x : Binder) → Binds bs l v x → x ≡ node q.at
  only_node q none (parameter i) st = let a = total_zero parameters (process_count bs l) 0 none i (omega arith) (omega (arith, st.0)) in let b = parameter_one i st in absurd (omega arith)
  only_node q none (node m) st =
      ⊎_elim (λ (e : m ≡ q.at). ap node e)
      (λ (ne : m ≡ q.at → ⊥). let a = q.others m (omega arith) (omega (arith, st.1.0)) ne in let b = node_one m st in absurd (omega arith)) (cases_eq m q.at)

  pub once_bound : variable_once bs l v ≡ true → Once (Binds bs l v)
  once_bound h =
      let sum = eqb-true (total parameters (process_count bs l) 0 + total nodes (node_count bs l) 0) 1 h in
      ⊎_elim (λ (e : total parameters (process_count bs l) 0 ≡ 1).
      let q = total_one parameters (process_count bs l) 0 e in
      let r = run_is (first_of bs l q.at) (number_of bs l q.at) v (omega (arith, q.one)) in
      (parameter q.at, (omega (arith, q.high), r.0, r.1), only_parameter q (omega arith)))
      (λ (ne : total parameters (process_count bs l) 0 ≡ 1 → ⊥).
      let none : total parameters (process_count bs l) 0 ≡ 0 = omega arith in
      let q = total_one nodes (node_count bs l) 0 (omega arith) in
      (node q.at, node_binds q.at (omega (arith, q.high)) (omega (arith, q.one)), only_node q none))
      (cases_eq (total parameters (process_count bs l) 0) 1)

  bound_made : (x : Binder) → Binds bs l v x → ((y : Binder) → Binds bs l v y → y ≡ x) → total parameters (process_count bs l) 0 + total nodes (node_count bs l) 0 ≡ 1
  bound_made (parameter i) st same =
      let a = total_single parameters (process_count bs l) 0 (record {
        at = i;
        low = omega arith;
        high = omega (arith, st.0);
        one = parameter_one i st;
        others = λ j low high ne. parameter_none j (omega arith) (λ q. ne (parameter_same (same (parameter j) q)));
      }) in
      let b = total_none nodes (node_count bs l) 0 (λ m low high. node_none m (omega arith) (λ q. apart (same (node m) q))) in
      omega arith
  bound_made (node m) st same =
      let a = total_none parameters (process_count bs l) 0 (λ i low high. parameter_none i (omega arith) (λ q. apart (sym (same (parameter i) q)))) in
      let b = total_single nodes (node_count bs l) 0 (record {
        at = m;
        low = omega arith;
        high = omega (arith, st.1.0);
        one = node_one m st;
        others = λ j low high ne. node_none j (omega arith) (λ q. ne (node_same (same (node j) q)));
      }) in
      omega arith

  pub bound_once : Once (Binds bs l v) → variable_once bs l v ≡ true
  bound_once (x, st, same) = eq-eqb (total parameters (process_count bs l) 0 + total nodes (node_count bs l) 0) 1 (bound_made x st same)
