-- What a node names is there just where the test says so. Assumes nothing.
use Rattle.std.proofs.Common.{◌≡◌, ℕ, ◌<◌, true, ◌&&◌, ltb, List, Some, None, Option, sym, refl, ap, ◌∙◌}
use Rattle.std.proofs.lemmas.Bool.{and_parts, and_from, ltb-true, lt-ltb, false≢true}
use Rattle.model_file.specs.declared.layout.Layout.{Layout}
use Rattle.model_file.specs.Fields.{variable_count, process_count, number_of, action_count, arity_of, node_count, argument_count}
use Rattle.model_file.specs.Sections.{run_fits}
use Rattle.model_file.proofs.Tested.{run_kept, run_made}
use Rattle.model_rules.specs.Shapes.{Shape, shape_at}
use Rattle.model_rules.specs.declared.shape.Shape.TheVariants.{Call, Condition, Choice, Sum, Action, Delay}
use Rattle.model_rules.specs.Names.{child_fits, named}
use Rattle.model_rules.specs.Sound.{IsNode, Child, Names}
use Rattle.model_rules.proofs.Decoded.{is_node, shape_is}

module _ (bs : List ℕ) (l : Layout) where
  child_named : (n c : ℕ) → child_fits (node_count bs l) n c ≡ true → Child bs l n c
  child_named n c h = let q = and_parts (ltb n c) (ltb c (node_count bs l)) h in (ltb-true n c q.0, ltb-true c (node_count bs l) q.1)

  child_made : (n c : ℕ) → Child bs l n c → child_fits (node_count bs l) n c ≡ true
  child_made n c (high, low) = and_from _ _ (lt-ltb n c high) (lt-ltb c (node_count bs l) low)

  names_given : (n : ℕ) (s : Shape) → named bs l n (Some s) ≡ true → Names bs l n s
  names_given n (Call p f) h =
      let q = and_parts (ltb p (process_count bs l)) (run_fits (argument_count bs l) f (number_of bs l p)) h in
      (ltb-true p (process_count bs l) q.0, run_kept (argument_count bs l) f (number_of bs l p) q.1)
  names_given n (Condition x c) h = child_named n c h
  names_given n (Choice x y) h =
      let q = and_parts (child_fits (node_count bs l) n x) (child_fits (node_count bs l) n y) h in
      (child_named n x q.0, child_named n y q.1)
  names_given n (Sum v c) h =
      let q = and_parts (ltb v (variable_count bs)) (child_fits (node_count bs l) n c) h in
      (ltb-true v (variable_count bs) q.0, child_named n c q.1)
  names_given n (Action a f v w c) h =
      let q = and_parts (ltb a (action_count bs l)) (run_fits (argument_count bs l) f (arity_of bs l a) && (ltb v (variable_count bs) && child_fits (node_count bs l) n c)) h in
      let r = and_parts (run_fits (argument_count bs l) f (arity_of bs l a)) (ltb v (variable_count bs) && child_fits (node_count bs l) n c) q.1 in
      let t = and_parts (ltb v (variable_count bs)) (child_fits (node_count bs l) n c) r.1 in
      (ltb-true a (action_count bs l) q.0, run_kept (argument_count bs l) f (arity_of bs l a) r.0, ltb-true v (variable_count bs) t.0, child_named n c t.1)
  names_given n (Delay r c) h = child_named n c h

  names_made : (n : ℕ) (s : Shape) → Names bs l n s → named bs l n (Some s) ≡ true
  names_made n (Call p f) (low, run) = and_from _ _ (lt-ltb p (process_count bs l) low) (run_made (argument_count bs l) f (number_of bs l p) run)
  names_made n (Condition x c) h = child_made n c h
  names_made n (Choice x y) (h, k) = and_from _ _ (child_made n x h) (child_made n y k)
  names_made n (Sum v c) (low, h) = and_from _ _ (lt-ltb v (variable_count bs) low) (child_made n c h)
  names_made n (Action a f v w c) (low, run, kept, h) =
      and_from _ _ (lt-ltb a (action_count bs l) low)
      (and_from _ _ (run_made (argument_count bs l) f (arity_of bs l a) run)
      (and_from _ _ (lt-ltb v (variable_count bs) kept) (child_made n c h)))
  names_made n (Delay r c) h = child_made n c h

  -- a node that the test passes has a kind
  shape_there : (n : ℕ) (o : Option Shape) → named bs l n o ≡ true → (s : Shape) × (o ≡ Some s)
  shape_there n None h = absurd (false≢true h)
  shape_there n (Some s) h = (s, refl)

  pub kind_named : (n : ℕ) → n < node_count bs l → named bs l n (shape_at bs l n) ≡ true → (s : Shape) × IsNode bs l n s
  kind_named n low h = let q = shape_there n (shape_at bs l n) h in (q.0, is_node bs l n q.0 low q.1)

  pub names_named : (n : ℕ) (s : Shape) → IsNode bs l n s → named bs l n (shape_at bs l n) ≡ true → Names bs l n s
  names_named n s is h = names_given n s (sym (ap (named bs l n) (shape_is bs l n s is)) ∙ h)

  pub named_made : (n : ℕ) (s : Shape) → IsNode bs l n s → Names bs l n s → named bs l n (shape_at bs l n) ≡ true
  named_made n s is names = ap (named bs l n) (shape_is bs l n s is) ∙ names_made n s names
