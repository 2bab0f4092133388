-- The flat model of a well-formed file has what is supposed of a model. Assumes nothing.
use Rattle.std.proofs.Common.{◌≡◌, ℕ, zero, suc, ◌+◌, ◌<◌, ◌≤◌, true, false, cond, List, [], ◌∷◌, length, get_or, take, drop, Some, sym, refl, ap, ◌∙◌, subst, ⊎_elim, arith}
use Rattle.std.specs.List.{slice_get}
use Rattle.std.proofs.lemmas.List.{length-take-le, length-drop}
use Rattle.std.proofs.lemmas.Bool.{cases_lt, cases_eq, cases_Bool, eq-eqb, eqb-true, false≢true}
use Rattle.model_file.specs.declared.layout.Layout.{Layout}
use Rattle.model_file.specs.Fields.{variable_count, size_of, process_count, first_of, number_of, start_of, value_of, action_count, arity_of, node_count, argument_count, argument_of}
use Rattle.model_file.specs.Layouts.{layout_of}
use Rattle.model_file.specs.Limits.{Between, Run}
use Rattle.model_rules.specs.Shapes.{Shape}
use Rattle.model_rules.specs.declared.shape.Shape.TheVariants.{Call, Condition, Choice, Sum, Action, Delay}
use Rattle.model_rules.specs.Sound.{IsNode, Names, Bound, parameter, node}
use Rattle.model_rules.proofs.Decoded.{shape_is}
use Rattle.model.specs.declared.node.Process.{Process}
use Rattle.model.specs.Flat.{or_delay, process_of, node_of, flat}
use Rattle.model.specs.Made.{bound_by, owner_from, owner_of, process_in, IsParameter, ChildIn, ArgumentsIn, Fits, Made}
use Rattle.model.specs.Nodes.{no_process, call_arity, action_arity}
use Rattle.model.specs.WellFormed.{WellFormed}
use Rattle.model.proofs.Grown.{some_same, none_some, tree_is}
use Rattle.model.proofs.Numbered.{numbered_length, numbered_at, numbered_nth, numbered_none}

bound_test : (s : Shape) (v : ℕ) → Bound s v → bound_by s v ≡ true
bound_test (Call p f) v h = absurd h
bound_test (Condition x c) v h = absurd h
bound_test (Choice x y) v h = absurd h
bound_test (Sum u c) v h = eq-eqb u v h
bound_test (Action a f u w c) v h = eq-eqb u v h
bound_test (Delay r c) v h = absurd h

test_bound : (s : Shape) (v : ℕ) → bound_by s v ≡ true → Bound s v
test_bound (Call p f) v h = absurd (false≢true h)
test_bound (Condition x c) v h = absurd (false≢true h)
test_bound (Choice x y) v h = absurd (false≢true h)
test_bound (Sum u c) v h = eqb-true u v h
test_bound (Action a f u w c) v h = eqb-true u v h
test_bound (Delay r c) v h = absurd (false≢true h)

-- the first node that binds v, where one does and no other
owner_node : (v i : ℕ) (ss : List Shape) (n : ℕ) (s : Shape) → slice_get ss n ≡ Some s → Bound s v
    → ((m : ℕ) (t : Shape) → slice_get ss m ≡ Some t → Bound t v → m ≡ n) → owner_from i ss v ≡ suc (i + n)
owner_node v i [] n s at h only = absurd (none_some at)
owner_node v i (t ∷ ss) zero s at h only =
    let e : bound_by t v ≡ true = bound_test t v (subst (λ u. Bound u v) (sym (some_same at)) h) in
    ap (λ b. cond b (suc i) (owner_from (suc i) ss v)) e ∙ omega arith
owner_node v i (t ∷ ss) (suc n) s at h only =
    ⊎_elim (λ (e : bound_by t v ≡ true). let z = only 0 t refl (test_bound t v e) in absurd (omega arith))
    (λ (e : bound_by t v ≡ false).
    let rest = owner_node v (suc i) ss n s at h (λ m u um uh. let z = only (suc m) u um uh in omega arith) in
    ap (λ b. cond b (suc i) (owner_from (suc i) ss v)) e ∙ rest ∙ omega arith)
    (cases_Bool (bound_by t v))

owner_none : (v i : ℕ) (ss : List Shape) → ((m : ℕ) (t : Shape) → slice_get ss m ≡ Some t → Bound t v → ⊥) → owner_from i ss v ≡ 0
owner_none v i [] none = refl
owner_none v i (t ∷ ss) none =
    ⊎_elim (λ (e : bound_by t v ≡ true). absurd (none 0 t refl (test_bound t v e)))
    (λ (e : bound_by t v ≡ false). ap (λ b. cond b (suc i) (owner_from (suc i) ss v)) e ∙ owner_none v (suc i) ss (λ m u um uh. none (suc m) u um uh))
    (cases_Bool (bound_by t v))

node_same : {m k : ℕ} → node m ≡ node k → m ≡ k
node_same e = cc

apart : {i m : ℕ} → node m ≡ parameter i → ⊥
apart e = cc

run_length : (xs : List ℕ) (f k : ℕ) → (k ≡ 0 → f ≡ 0) → (0 < k → f + k ≤ length xs) → length (take k (drop f xs)) ≡ k
run_length xs f k none some =
    ⊎_elim (λ (e : k ≡ 0). length-take-le k (drop f xs) (omega arith))
    (λ (ne : k ≡ 0 → ⊥). let fit = some (omega arith) in length-take-le k (drop f xs) (omega (arith, length-drop f xs))) (cases_eq k 0)

module _ (bs : List ℕ) (m : WellFormed bs) where
  abbrev l : Layout
  l = layout_of bs

  lengths_sizes : variable_count bs ≡ length (flat bs).sizes
  lengths_sizes = numbered_length (size_of bs) (variable_count bs)

  lengths_processes : process_count bs l ≡ length (flat bs).processes
  lengths_processes = numbered_length (process_of bs l) (process_count bs l)

  lengths_nodes : node_count bs l ≡ length (flat bs).nodes
  lengths_nodes = numbered_length (node_of bs l) (node_count bs l)

  lengths_arities : action_count bs l ≡ length (flat bs).arities
  lengths_arities = numbered_length (arity_of bs l) (action_count bs l)

  lengths_arguments : argument_count bs l ≡ length (flat bs).arguments
  lengths_arguments = numbered_length (argument_of bs l) (argument_count bs l)

  process_at_lem : (i : ℕ) → i < length (flat bs).processes → process_of bs l i ≡ process_in (flat bs) i
  process_at_lem i low = numbered_at (process_of bs l) (process_count bs l) i no_process (omega (arith, lengths_processes))

  pub node_is : (n : ℕ) (s : Shape) → slice_get (flat bs).nodes n ≡ Some s → IsNode bs l n s
  node_is n s h =
      ⊎_elim (λ (low : n < node_count bs l).
      let k = m.sound.kinds n low in
      let here : Some (node_of bs l n) ≡ Some s = numbered_nth (node_of bs l) (node_count bs l) n low ∙ h in
      let same : k.0 ≡ s = sym (ap or_delay (shape_is bs l n k.0 k.1)) ∙ some_same here in
      subst (λ t. IsNode bs l n t) same k.1)
      (λ (past : node_count bs l ≤ n). absurd (none_some (numbered_none (node_of bs l) (node_count bs l) n past ∙ h))) (cases_lt n (node_count bs l))

  child_in : (n c : ℕ) → (n < c) × (c < node_count bs l) → ChildIn (flat bs) n c
  child_in n c (high, low) = (high, omega (arith, lengths_nodes))

  arguments_in : (f k : ℕ) → Run (argument_count bs l) f k → ArgumentsIn (flat bs) f k
  arguments_in f k (none, some) = run_length (flat bs).arguments f k none (λ more. let fit = some more in omega (arith, lengths_arguments))

  call_arity_lem : (p : ℕ) → p < process_count bs l → number_of bs l p ≡ call_arity (flat bs) p
  call_arity_lem p low = ap (λ (q : Process). q.number) (numbered_at (process_of bs l) (process_count bs l) p no_process low)

  action_arity_lem : (a : ℕ) → a < action_count bs l → arity_of bs l a ≡ action_arity (flat bs) a
  action_arity_lem a low = numbered_at (arity_of bs l) (action_count bs l) a 0 low

  fits : (n : ℕ) (s : Shape) → Names bs l n s → Fits (flat bs) n s
  fits n (Call p f) (low, run) = (omega (arith, lengths_processes), subst (λ k. ArgumentsIn (flat bs) f k) (call_arity_lem p low) (arguments_in f (number_of bs l p) run))
  fits n (Condition x c) h = child_in n c h
  fits n (Choice x y) (h, k) = (child_in n x h, child_in n y k)
  fits n (Sum v c) (low, h) = (omega (arith, lengths_sizes), child_in n c h)
  fits n (Action a f v w c) (low, run, small, h) = (omega (arith, lengths_arities), subst (λ k. ArgumentsIn (flat bs) f k) (action_arity_lem a low) (arguments_in f (arity_of bs l a) run), omega (arith, lengths_sizes), child_in n c h)
  fits n (Delay r c) h = child_in n c h

  -- a node binds a variable of the model
  bound_there : (n : ℕ) (s : Shape) (v : ℕ) → Names bs l n s → Bound s v → v < variable_count bs
  bound_there n (Call p f) v names h = absurd h
  bound_there n (Condition x c) v names h = absurd h
  bound_there n (Choice x y) v names h = absurd h
  bound_there n (Sum u c) v names h = subst (λ x. x < variable_count bs) h names.0
  bound_there n (Action a f u w c) v names h = subst (λ x. x < variable_count bs) h names.2
  bound_there n (Delay r c) v names h = absurd h

  own_node : (n : ℕ) (s : Shape) → slice_get (flat bs).nodes n ≡ Some s → (v : ℕ) → Bound s v → owner_of (flat bs) v ≡ suc n
  own_node n s at v h =
      let is = node_is n s at in
      let once = m.sound.bound v (bound_there n s v (m.sound.names n s is) h) in
      let mine : node n ≡ once.0 = once.2 (node n) (s, is, h) in
      owner_node v 0 (flat bs).nodes n s at h (λ k t tk th. node_same (once.2 (node k) (t, node_is k t tk, th) ∙ sym mine)) ∙ ap suc (omega arith)

  own_parameter : (i : ℕ) → i < length (flat bs).processes → (v : ℕ) → IsParameter (flat bs) (process_in (flat bs) i) v → owner_of (flat bs) v ≡ 0
  own_parameter i low v h =
      let there : i < process_count bs l = omega (arith, lengths_processes) in
      let at = subst (λ q. IsParameter (flat bs) q v) (sym (process_at_lem i low)) h in
      let run = (m.limits.parameters i there).1 in
      let fit = run.1 (omega (arith, at.0, at.1)) in
      let once = m.sound.bound v (omega (arith, at.1)) in
      let mine : parameter i ≡ once.0 = once.2 (parameter i) (there, at.0, at.1) in
      owner_none v 0 (flat bs).nodes (λ k t tk th. apart (once.2 (node k) (t, node_is k t tk, th) ∙ sym mine))

  pub made : Made (flat bs)
  made =
      let begins : start_of bs l < process_count bs l = m.limits.start in
      let first-process : process_of bs l (start_of bs l) ≡ process_in (flat bs) (start_of bs l) = process_at_lem (start_of bs l) (omega (arith, lengths_processes)) in
      record {
        variables = omega (arith, lengths_sizes, m.limits.variables);
        sizes = λ v low. subst (Between 1 256) (numbered_at (size_of bs) (variable_count bs) v 0 (omega (arith, lengths_sizes))) (m.limits.sizes v (omega (arith, lengths_sizes)));
        parameters = λ i low. subst (λ (q : Process). (q.number ≤ 8) × Run (length (flat bs).sizes) q.first q.number) (process_at_lem i low)
            (subst (λ n. (number_of bs l i ≤ 8) × Run n (first_of bs l i) (number_of bs l i)) lengths_sizes (m.limits.parameters i (omega (arith, lengths_processes))));
        bodies = λ i low. subst (λ (q : Process). q.body < length (flat bs).nodes) (process_at_lem i low) (omega (arith, lengths_nodes, m.sound.bodies i (omega (arith, lengths_processes))));
        start = omega (arith, lengths_processes);
        start_values = sym (numbered_length (value_of bs l) (number_of bs l (start_of bs l))) ∙ ap (λ (q : Process). q.number) first-process;
        values = λ k low.
            let below : k < number_of bs l (start_of bs l) = omega (arith, numbered_length (value_of bs l) (number_of bs l (start_of bs l))) in
            let run = (m.limits.parameters (start_of bs l) begins).1.1 (omega arith) in
            let a = numbered_at (value_of bs l) (number_of bs l (start_of bs l)) k 0 below in
            let b = numbered_at (size_of bs) (variable_count bs) (first_of bs l (start_of bs l) + k) 0 (omega arith) in
            let c : get_or (flat bs).sizes (first_of bs l (start_of bs l) + k) 0 ≡ get_or (flat bs).sizes ((process_in (flat bs) (start_of bs l)).first + k) 0 = ap (λ (q : Process). get_or (flat bs).sizes (q.first + k) 0) first-process in
            let d = m.limits.values k below in
            omega (arith, a, b, c, d);
        internal = sym (numbered_at (arity_of bs l) (action_count bs l) 0 0 m.limits.actions.0) ∙ m.limits.internal;
        arities = λ a low. subst (λ n. n ≤ 4) (numbered_at (arity_of bs l) (action_count bs l) a 0 (omega (arith, lengths_arities))) (m.limits.arities a (omega (arith, lengths_arities)));
        few = omega (arith, lengths_nodes, m.limits.nodes.1);
        nodes = λ n s at. fits n s (m.sound.names n s (node_is n s at));
        trees = tree_is (flat bs) (λ n s at. fits n s (m.sound.names n s (node_is n s at)));
        own_nodes = own_node;
        own_parameters = own_parameter;
      }
