-- What stands above a node passes from each node of an accepted model to its children, and a place has its own. Assumes nothing.
use Rattle.std.proofs.Common.{◌≡◌, ℕ, zero, suc, ◌+◌, ◌-◌, ◌<◌, ◌≤◌, Bool, true, false, cond, eqb, List, get_or, Some, None, Option, sym, refl, ap, ◌∙◌, subst, ap₂, inl, inr, ⊎_elim, arith}
use Rattle.std.specs.List.{range_with_len, AllByRecursion}
use Rattle.std.proofs.ByRecursion.{All-map}
use Rattle.std.proofs.lemmas.Bool.{eq-eqb, eqb-true, or_parts, or_cases, or_left, or_right, cases_Bool, cases_lt, both_ways}
use Rattle.linear.specs.Equations.{Guarded}
use Rattle.model_file.specs.declared.layout.Layout.{Layout}
use Rattle.model_file.specs.Fields.{node_count, process_count, body_of}
use Rattle.model_file.specs.Layouts.{layout_of}
use Rattle.model_rules.specs.Shapes.{Shape}
use Rattle.model_rules.specs.declared.shape.Shape.TheVariants as shape
use Rattle.model_rules.specs.Sound as rules
use Rattle.model_rules.specs.Sound.{Place, body, child, IsNode, LeadsTo}
use Rattle.model.specs.Flat.{Flat, flat, process_of}
use Rattle.model.specs.Nodes.{NodeValue, call, condition, choice, sum, action, delay, node_in, value_in}
use Rattle.model.specs.Trees as trees
use Rattle.model.specs.Trees.{Tree, planted, tree_of}
use Rattle.model.specs.WellFormed.{WellFormed}
use Rattle.model.proofs.Numbered.{numbered_none}
use Rattle.model.specs.Flat.{node_of}
use Rattle.source.specs.Models.{next, node, headed, model_of}
use Rattle.source.specs.Places.{counter}
use Rattle.source.proofs.Enumerate.{all_counting}
use Rattle.behaviour.specs.Passing.{place_itself, and_sum, and_condition, passed, passes_to, above_at, above}
use Rattle.behaviour.proofs.Accepted.{at_node_lem, number_of_lem}
use Rattle.behaviour.proofs.ByNode.{Arrived, Passes}

module _ (nodes : ℕ → Option NodeValue) (start : ℕ → Guarded) where
  unpassed : (o : Option NodeValue) (u : Guarded) (f : ℕ → Guarded) (k : ℕ) → passes_to o k ≡ false → passed o u f k ≡ f k
  unpassed None u f k e = refl
  unpassed (Some (call p bs)) u f k e = refl
  unpassed (Some (condition x c)) u f k e = ap (λ b. cond b (and_condition x u) (f k)) e
  unpassed (Some (choice x y)) u f k e = let p = or_parts (eqb k y) (eqb k x) e in ap₂ (λ a b. cond a u (cond b u (f k))) p.0 p.1
  unpassed (Some (sum v c)) u f k e = ap (λ b. cond b (and_sum v u) (f k)) e
  unpassed (Some (action a bs v w c)) u f k e = refl
  unpassed (Some (delay r c)) u f k e = refl

  stays : (n j k : ℕ) → ((i : ℕ) → n ≤ i → passes_to (nodes i) k ≡ false) → above_at nodes start (n + j) k ≡ above_at nodes start n k
  stays n zero k h = let q : n + 0 ≡ n = omega arith in ap (λ i. above_at nodes start i k) q
  stays n (suc j) k h =
      let q : n + suc j ≡ suc (n + j) = omega arith in
      ap (λ i. above_at nodes start i k) q
      ∙ unpassed (nodes (n + j)) (above_at nodes start (n + j) (n + j)) (above_at nodes start (n + j)) k (h (n + j) (omega arith))
      ∙ stays n j k h

  handed : (n c : ℕ) → n < c → ((i : ℕ) → suc n ≤ i → passes_to (nodes i) c ≡ false) → above nodes start c ≡ passed (nodes n) (above nodes start n) (above_at nodes start n) c
  handed n c l h = let q : c ≡ suc n + (c - suc n) = omega arith in ap (λ i. above_at nodes start i c) q ∙ stays (suc n) (c - suc n) c h

  unhanded : (c : ℕ) → ((i : ℕ) → passes_to (nodes i) c ≡ false) → above nodes start c ≡ start c
  unhanded c h = let q : c ≡ 0 + c = omega arith in ap (λ i. above_at nodes start i c) q ∙ stays 0 c c (λ i l. h i)

-- whose place it is: 0 for a body, one more than the parent for a child
parent : Place → ℕ
parent (body i) = 0
parent (child m k) = suc m

module _ (bs : List ℕ) (w : WellFormed bs) where
  abbrev l : Layout
  l = layout_of bs

  abbrev g : Flat
  g = flat bs

  abbrev K : ℕ
  K = node_count bs (layout_of bs)

  none_past : (n : ℕ) → K ≤ n → node_in g n ≡ None
  none_past n h = ap (value_in g) (sym (numbered_none (node_of bs l) K n h))

  passes_shape : (n c : ℕ) (s : Shape) → IsNode bs l n s → passes_to (value_in g (Some s)) c ≡ true → (k : ℕ) × rules.Stands bs l c (child n k)
  passes_shape n c (shape.Call p f) i e = absurd (both_ways _ refl e)
  passes_shape n c (shape.Condition x y) i e = (0, (shape.Condition x y, i, omega arith, sym (eqb-true c y e)))
  passes_shape n c (shape.Choice x y) i e =
      ⊎_elim (λ a. (1, (shape.Choice x y, i, omega arith, sym (eqb-true c y a)))) (λ a. (0, (shape.Choice x y, i, omega arith, sym (eqb-true c x a)))) (or_cases (eqb c y) (eqb c x) e)
  passes_shape n c (shape.Sum v y) i e = (0, (shape.Sum v y, i, omega arith, sym (eqb-true c y e)))
  passes_shape n c (shape.Action a f v x y) i e = absurd (both_ways _ refl e)
  passes_shape n c (shape.Delay r y) i e = absurd (both_ways _ refl e)

  -- a node that passes to c is its parent
  passes_stands : (n c : ℕ) → passes_to (node_in g n) c ≡ true → (k : ℕ) × rules.Stands bs l c (child n k)
  passes_stands n c e = ⊎_elim
      (λ (low : n < K). let z = w.sound.kinds n low in passes_shape n c z.0 z.1 (subst (λ o. passes_to o c ≡ true) (at_node_lem bs w n z.0 z.1).there e))
      (λ (high : K ≤ n). absurd (both_ways _ refl (subst (λ o. passes_to o c ≡ true) (none_past n high) e)))
      (cases_lt n K)

  -- so a node has one parent, and a body has none
  same_parent : (c : ℕ) → c < K → (x y : Place) → rules.Stands bs l c x → rules.Stands bs l c y → parent x ≡ parent y
  same_parent c low x y a b = let o = w.sound.placed c low in ap parent (o.2 x a ∙ sym (o.2 y b))

  only : (n c : ℕ) → c < K → (x : Place) → rules.Stands bs l c x → passes_to (node_in g n) c ≡ true → parent x ≡ suc n
  unfolding parent
  only n c low x a e = let z = passes_stands n c e in same_parent c low x (child n z.0) a z.1

  not_passed : (c : ℕ) → c < K → (x : Place) → rules.Stands bs l c x → (n : ℕ) → (parent x ≡ suc n → ⊥) → passes_to (node_in g n) c ≡ false
  not_passed c low x a n ne = ⊎_elim (λ e. absurd (ne (only n c low x a e))) (λ e. e) (cases_Bool (passes_to (node_in g n) c))

  -- a child of an action or a delay is passed nothing
  moved_not : (n c : ℕ) (s : Shape) → IsNode bs l n s → LeadsTo s c → c < K → (i : ℕ) → passes_to (node_in g i) c ≡ false
  unfolding parent
  moved_not n c s is leads low i = ⊎_elim yes (λ e. e) (cases_Bool (passes_to (node_in g i) c))
    where
      stands : (s : Shape) → IsNode bs l n s → LeadsTo s c → rules.Stands bs l c (child n 0)
      stands (shape.Call p f) is h = absurd h
      stands (shape.Condition x y) is h = absurd h
      stands (shape.Choice x y) is h = absurd h
      stands (shape.Sum v y) is h = absurd h
      stands (shape.Action a f v x y) is h = (shape.Action a f v x y, is, omega arith, h)
      stands (shape.Delay r y) is h = (shape.Delay r y, is, omega arith, h)

      never : (s : Shape) → LeadsTo s c → passes_to (value_in g (Some s)) c ≡ false
      never (shape.Call p f) h = refl
      never (shape.Condition x y) h = absurd h
      never (shape.Choice x y) h = absurd h
      never (shape.Sum v y) h = absurd h
      never (shape.Action a f v x y) h = refl
      never (shape.Delay r y) h = refl

      yes : passes_to (node_in g i) c ≡ true → passes_to (node_in g i) c ≡ false
      yes e =
          let q : suc n ≡ suc i = only i c low (child n 0) (stands s is leads) e in
          let r : n ≡ i = omega arith in
          subst (λ j. passes_to (node_in g j) c ≡ false) r (ap (λ o. passes_to o c) (at_node_lem bs w n s is).there ∙ never s leads)

  body_not : (p : ℕ) → p < process_count bs l → (i : ℕ) → passes_to (node_in g i) (body_of bs l p) ≡ false
  unfolding parent
  body_not p low i = not_passed (body_of bs l p) (w.sound.bodies p low) (body p) (low, refl) i (λ e. omega (arith, e))

  module _ (start : ℕ → Guarded) (starts : (c : ℕ) → rules.Resting bs l c → start c ≡ place_itself (counter (model_of g) c)) where
    abbrev up : ℕ → Guarded
    up = above (node_in g) start

    inner : (n c : ℕ) → n < c → passes_to (node_in g n) c ≡ true → c < K → up c ≡ passed (node_in g n) (up n) (above_at (node_in g) start n) c
    unfolding parent
    inner n c low e high =
        let z = passes_stands n c e in
        handed (node_in g) start n c low (λ i le. not_passed c high (child n z.0) z.1 i (λ q. omega (arith, q, le)))

    arrived : (t : Tree) → up (node t) ≡ place_itself (counter (model_of g) (node t)) → Arrived (model_of g) (tree_of g) up (next t)
    arrived (trees.call n p es) h = tt
    arrived (trees.when n e t) h = h
    arrived (trees.choice n x y) h = h
    arrived (trees.sum n x t) h = h
    arrived (trees.action n a es x e t) h = h
    arrived (trees.delay n r t) h = h

    leads_call : (n c : ℕ) (s : Shape) → IsNode bs l n s → LeadsTo s c → c < K → Arrived (model_of g) (tree_of g) up (next (tree_of g c))
    leads_call n c s is leads low =
        let z = w.sound.kinds c low in
        go z.0 z.1 (at_node_lem bs w c z.0 z.1).tree
      where
        rest_at : ((rules.IsCall bs l c) → ⊥) → Arrived (model_of g) (tree_of g) up (next (tree_of g c))
        rest_at never =
            arrived (tree_of g c)
            (subst (λ k. up k ≡ place_itself (counter (model_of g) k)) (sym (number_of_lem bs w c low))
            (unhanded (node_in g) start c (moved_not n c s is leads low) ∙ starts c (inr ((n, s, is, leads), never))))

        go : (k : Shape) → IsNode bs l c k → tree_of g c ≡ planted g c k (tree_of g) → Arrived (model_of g) (tree_of g) up (next (tree_of g c))
        go (shape.Call p f) i e = subst (λ t. Arrived (model_of g) (tree_of g) up (next t)) (sym e) tt
        go (shape.Condition x y) i e = rest_at (λ q. let z : ◌≡◌ {A = ℕ} 1 2 = ap (λ xs. get_or xs 0 0) (sym q.2.1 ∙ i.1) in omega arith)
        go (shape.Choice x y) i e = rest_at (λ q. let z : ◌≡◌ {A = ℕ} 1 3 = ap (λ xs. get_or xs 0 0) (sym q.2.1 ∙ i.1) in omega arith)
        go (shape.Sum v y) i e = rest_at (λ q. let z : ◌≡◌ {A = ℕ} 1 4 = ap (λ xs. get_or xs 0 0) (sym q.2.1 ∙ i.1) in omega arith)
        go (shape.Action a f v x y) i e = rest_at (λ q. let z : ◌≡◌ {A = ℕ} 1 5 = ap (λ xs. get_or xs 0 0) (sym q.2.1 ∙ i.1) in omega arith)
        go (shape.Delay r y) i e = rest_at (λ q. let z : ◌≡◌ {A = ℕ} 1 6 = ap (λ xs. get_or xs 0 0) (sym q.2.1 ∙ i.1) in omega arith)

    -- what stands above a child of a condition, a choice, a sum
    at_child : (n c : ℕ) (o : Option NodeValue) (v : Guarded) → node_in g n ≡ o → n < c → c < K → passes_to o c ≡ true
        → passed o (up n) (above_at (node_in g) start n) c ≡ v → up (node (tree_of g c)) ≡ v
    at_child n c o v e low high p q =
        ap up (number_of_lem bs w c high)
        ∙ inner n c low (ap (λ y. passes_to y c) e ∙ p) high
        ∙ ap (λ y. passed y (up n) (above_at (node_in g) start n) c) e ∙ q

    either : (b : Bool) (x : Guarded) → cond b x x ≡ x
    either true x = refl
    either false x = refl

    passing : (b n : ℕ) → K ≤ n + b → n < K → Passes (model_of g) (tree_of g) up (tree_of g n)
    passing zero n h low = absurd (omega arith)
    passing (suc b) n h low =
        let z = w.sound.kinds n low in
        let a = at_node_lem bs w n z.0 z.1 in
        subst (Passes (model_of g) (tree_of g) up) (sym a.tree) (go z.0 z.1 a.there a.names (λ c i j. passing b c (omega arith) j))
      where
        go : (s : Shape) → IsNode bs l n s → node_in g n ≡ value_in g (Some s) → rules.Names bs l n s → ((c : ℕ) → n < c → c < K → Passes (model_of g) (tree_of g) up (tree_of g c))
            → Passes (model_of g) (tree_of g) up (planted g n s (tree_of g))
        go (shape.Call p f) is e ns ih = tt
        go (shape.Condition x c) is e ns ih =
            let q = eq-eqb c c refl in
            (at_child n c (Some (condition x c)) (and_condition x (up n)) e ns.0 ns.1 q (ap (λ t. cond t (and_condition x (up n)) (above_at (node_in g) start n c)) q), ih c ns.0 ns.1)
        go (shape.Choice x y) is e ns ih =
            let qx = eq-eqb x x refl in let qy = eq-eqb y y refl in (
              at_child n x (Some (choice x y)) (up n) e ns.0.0 ns.0.1 (or_right (eqb x y) (eqb x x) qx)
                  (ap (λ t. cond (eqb x y) (up n) (cond t (up n) (above_at (node_in g) start n x))) qx ∙ either (eqb x y) (up n)),
              at_child n y (Some (choice x y)) (up n) e ns.1.0 ns.1.1 (or_left (eqb y y) (eqb y x) qy)
                  (ap (λ t. cond t (up n) (cond (eqb y x) (up n) (above_at (node_in g) start n y))) qy),
              ih x ns.0.0 ns.0.1,
              ih y ns.1.0 ns.1.1,
            )
        go (shape.Sum v c) is e ns ih =
            let q = eq-eqb c c refl in
            (at_child n c (Some (sum v c)) (and_sum v (up n)) e ns.1.0 ns.1.1 q (ap (λ t. cond t (and_sum v (up n)) (above_at (node_in g) start n c)) q), ih c ns.1.0 ns.1.1)
        go (shape.Action a f v x c) is e ns ih = (leads_call n c (shape.Action a f v x c) is refl ns.3.1, ih c ns.3.0 ns.3.1)
        go (shape.Delay r c) is e ns ih = (leads_call n c (shape.Delay r c) is refl ns.1, ih c ns.0 ns.1)

    body_up : (p : ℕ) → p < process_count bs l → up (body_of bs l p) ≡ place_itself (counter (model_of g) (body_of bs l p))
    body_up p low = unhanded (node_in g) start (body_of bs l p) (body_not p low) ∙ starts (body_of bs l p) (inl (p, (low, refl)))

    -- what `by_node` asks for
    pub all_pass : AllByRecursion (λ q. (up (node q.body) ≡ place_itself (counter (model_of g) (node q.body))) × Passes (model_of g) (tree_of g) up q.body) (model_of g).processes
    all_pass =
        All-map _ (headed g) g.processes (All-map _ (process_of bs l) (range_with_len 0 (process_count bs l))
        (all_counting _ 0 (process_count bs l) (process_count bs l) (omega arith) (λ p low.
        let b = w.sound.bodies p low in
        (subst (λ k. up k ≡ place_itself (counter (model_of g) k)) (sym (number_of_lem bs w (body_of bs l p) b)) (body_up p low), passing K (body_of bs l p) (omega arith) b))))
