-- The nodes that have something, and those above them, found from the highest down.
use Rattle.std.proofs.Common.{◌≡◌, ℕ, zero, suc, ◌+◌, ◌-◌, ◌<◌, ◌≤◌, Bool, true, false, ◌||◌, eqb, [], length, get_or, Some, sym, refl, ap, ◌∙◌, subst, ap₂, ⊎_elim, arith}
use Rattle.std.proofs.lemmas.List.{get_or_past}
use Rattle.std.proofs.lemmas.Option.{slice_get-get_or}
use Rattle.std.proofs.lemmas.Bool.{cases_eq, cases_lt, eq-eqb, ne_eqb}
use Rattle.model_rules.specs.Shapes.{Shape}
use Rattle.model_rules.specs.declared.shape.Shape.TheVariants.{Call, Condition, Choice, Sum, Action, Delay}
use Rattle.words.specs.Words.{bytes_of}
use Rattle.model.specs.Flat.{Flat}
use Rattle.model.specs.Nodes.{NodeValue, value_in, node_in, condition, choice, sum, action, delay, arguments_from, action_arity}
use Rattle.model.specs.Trees.{Tree, call, tree_of}
use Rattle.source.specs.Nodes.{carried_by, Rises, RisesFrom}
use Rattle.source.specs.Sets.{has}
use Rattle.source.specs.declared.set.NodeSet.{NodeSet}
use Rattle.source.proofs.Below.{rises_at}
use Rattle.source.proofs.Grown.{tree_past}

pub past : (s : NodeSet) (n : ℕ) → 256 ≤ n → has s n ≡ false
past s n l = get_or_past s.flags n false (omega (arith, s.full))

module _ (q : NodeValue → Bool) (g : Flat) where
  -- so far down to node k
  pub record Carrying (s : NodeSet) (k : ℕ) : Type 0 where
    pub low : k ≤ length g.nodes
    pub below : (c : ℕ) → c < k → has s c ≡ false
    pub within : (c : ℕ) → k ≤ c → c < length g.nodes → has s c ≡ carried_by q (has s) (node_in g c)
    pub beyond : (c : ℕ) → length g.nodes ≤ c → has s c ≡ false

module _ (q : NodeValue → Bool) (g : Flat) (rising : RisesFrom 0 g.nodes) where
  same_shape : (n : ℕ) (k : Shape) (p r : ℕ → Bool) → Rises n k → ((c : ℕ) → n < c → p c ≡ r c) → carried_by q p (value_in g (Some k)) ≡ carried_by q r (value_in g (Some k))
  same_shape n (Call u f) p r j h = refl
  same_shape n (Condition e c) p r j h = ap (λ b. q (condition e c) || b) (h c j)
  same_shape n (Choice u v) p r j h = ap (λ b. q (choice u v) || b) (ap₂ ◌||◌ (h u j.0) (h v j.1))
  same_shape n (Sum x c) p r j h = ap (λ b. q (sum x c) || b) (h c j)
  same_shape n (Action a f x w c) p r j h = ap (λ b. q (action a (bytes_of (arguments_from g f (action_arity g a))) x w c) || b) (h c j)
  same_shape n (Delay e c) p r j h = ap (λ b. q (delay e c) || b) (h c j)

  -- children are higher
  same_above : (n : ℕ) → n < length g.nodes → (p r : ℕ → Bool) → ((c : ℕ) → n < c → p c ≡ r c) → carried_by q p (node_in g n) ≡ carried_by q r (node_in g n)
  same_above n l p r h =
      let here = get_or g.nodes n (Delay 0 0) in
      let e = slice_get-get_or g.nodes n (Delay 0 0) l in
      ap (λ o. carried_by q p (value_in g o)) e ∙ same_shape n here p r (let z : 0 + n ≡ n = omega arith in subst (λ k. Rises k here) z (rises_at 0 g.nodes (Delay 0 0) n rising l)) h ∙ sym (ap (λ o. carried_by q r (value_in g o)) e)

  pub begun : (s : NodeSet) (k : ℕ) → k ≡ length g.nodes → ((c : ℕ) → has s c ≡ false) → Carrying q g s k
  begun s k e h = record { low = omega arith; below = λ c l. h c; within = λ c l m. absurd (omega arith); beyond = λ c l. h c }

  pub skipped : (s : NodeSet) (n : ℕ) → 0 < n → Carrying q g s n → false ≡ carried_by q (has s) (node_in g (n - 1)) → Carrying q g s (n - 1)
  skipped s n o r z = record {
    low = omega (arith, r.low);
    below = λ c l. r.below c (omega arith);
    within = λ c l m. ⊎_elim
        (λ (e : c ≡ n - 1). r.below c (omega arith) ∙ z ∙ ap (λ j. carried_by q (has s) (node_in g j)) (sym e))
        (λ (d : c ≡ n - 1 → ⊥). r.within c (omega (arith, d)) m)
        (cases_eq c (n - 1));
    beyond = r.beyond;
  }

  pub carried : (s t : NodeSet) (n : ℕ) → 0 < n → n ≤ 256 → Carrying q g s n → true ≡ carried_by q (has s) (node_in g (n - 1)) → ((c : ℕ) → c < 256 → has t c ≡ (eqb (n - 1) c || has s c)) → Carrying q g t (n - 1)
  carried s t n o f r z w = record {
    low = omega (arith, r.low);
    below = λ c l. other c (λ e. omega (arith, e)) ∙ r.below c (omega arith);
    within = λ c l m. ⊎_elim
        (λ (e : c ≡ n - 1). ap (has t) e ∙ here ∙ z ∙ same_above (n - 1) (omega (arith, r.low)) (has s) (has t) (λ d y. sym (other d (λ e. omega (arith, e)))) ∙ ap (λ j. carried_by q (has t) (node_in g j)) (sym e))
        (λ (d : c ≡ n - 1 → ⊥). other c d ∙ r.within c (omega (arith, d)) m ∙ same_above c m (has s) (has t) (λ b y. sym (other b (λ e. omega (arith, e)))))
        (cases_eq c (n - 1));
    beyond = λ c l. other c (λ e. omega (arith, e, r.low)) ∙ r.beyond c l;
  }
    where
      other : (c : ℕ) → (c ≡ n - 1 → ⊥) → has t c ≡ has s c
      other c d = ⊎_elim
          (λ (l : c < 256). w c l ∙ ap (λ b. b || has s c) (ne_eqb (n - 1) c (λ e. d (sym e))))
          (λ (l : 256 ≤ c). past t c l ∙ sym (past s c l))
          (cases_lt c 256)

      here : has t (n - 1) ≡ true
      here = w (n - 1) (omega arith) ∙ ap (λ b. b || has s (n - 1)) (eq-eqb (n - 1) (n - 1) refl)

  -- what is so of the trees themselves is what was found
  pub found : (s : NodeSet) (f : Tree → Bool) → f (call 0 0 []) ≡ false
      → ((n : ℕ) → n < length g.nodes → (p : ℕ → Bool) → ((c : ℕ) → n < c → p c ≡ f (tree_of g c)) → carried_by q p (node_in g n) ≡ f (tree_of g n))
      → ((n : ℕ) → n < length g.nodes → has s n ≡ carried_by q (has s) (node_in g n)) → ((n : ℕ) → length g.nodes ≤ n → has s n ≡ false) → (n : ℕ) → has s n ≡ f (tree_of g n)
  found s f none up within beyond n = go (length g.nodes) n (omega arith)
    where
      gone : (n : ℕ) → length g.nodes ≤ n → has s n ≡ f (tree_of g n)
      gone n l = beyond n l ∙ sym none ∙ ap f (sym (tree_past g n l))

      go : (k n : ℕ) → length g.nodes ≤ n + k → has s n ≡ f (tree_of g n)
      go zero n l = gone n (omega arith)
      go (suc k) n l = ⊎_elim
          (λ (m : n < length g.nodes). within n m ∙ up n m (has s) (λ c y. go k c (omega arith)))
          (λ (m : length g.nodes ≤ n). gone n m)
          (cases_lt n (length g.nodes))
