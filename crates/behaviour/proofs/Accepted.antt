-- An accepted model file gives a sound model, each node of which is placed once. Assumes nothing.
use Rattle.std.proofs.Common.{◌≡◌, ℕ, zero, suc, ◌+◌, ◌-◌, ◌<◌, ◌≤◌, true, eqb, ltb, leb, ◌⊎◌, List, [], ◌∷◌, map, length, get_or, drop, Some, sym, refl, ap, ◌∙◌, subst, ap₂, inl, inr, ⊎_elim, arith}
use lib.ListN.{get_or-eq_default}
use Rattle.std.specs.List.{range_with_len, AllByRecursion}
use Rattle.std.proofs.ByRecursion.{All-map}
use Rattle.std.proofs.lemmas.List.{length-take-le, length-drop}
use Rattle.std.proofs.lemmas.Bool.{cases_lt, eqb-true, ne_eqb, and_parts, leb-true, ltb-true}
use Rattle.model_file.specs.declared.layout.Layout.{Layout}
use Rattle.model_file.specs.Fields.{variable_count, size_of, process_count, first_of, number_of, body_of, start_of, value_of, node_count, argument_count, argument_of}
use Rattle.model_file.specs.Layouts.{layout_of}
use Rattle.model_file.specs.Limits.{Run}
use Rattle.model_rules.specs.Shapes.{Shape}
use Rattle.model_rules.specs.declared.shape.Shape.TheVariants as shape
use Rattle.model_rules.specs.Shapes.{shape_at, children_of}
use Rattle.model_rules.specs.Sound as rules
use Rattle.model_rules.specs.Sound.{Binder, parameter, IsNode}
use Rattle.model_rules.specs.Tallies as tallies
use Rattle.model_rules.specs.Tallies.{one, occurs, children}
use Rattle.model_rules.proofs.Decoded.{shape_is}
use Rattle.model_rules.proofs.Placed.{once_made}
use Rattle.model.specs.declared.node.Process as header
use Rattle.model.specs.Flat.{Flat, flat, process_of, node_of, or_delay}
use Rattle.model.specs.Nodes as nodes
use Rattle.model.specs.Nodes.{call_arity, action_arity, arguments_from, node_in, value_in}
use Rattle.model.specs.Trees.{Tree, call, planted, grown, tree_of}
use Rattle.model.specs.WellFormed.{WellFormed}
use Rattle.model.proofs.Numbered.{numbered_length, numbered_at, numbered_nth}
use Rattle.source.specs.Models.{Process, node, process, no_process, param, headed, model_of}
use Rattle.source.specs.Sound.{Sound}
use Rattle.source.proofs.Totals.{total, total_map, total_all}
use Rattle.source.proofs.Enumerate.{all_counting}
use Rattle.behaviour.proofs.Grown.{Kid, Kids, KidsFrom, Binds, BindsFrom, WellMade, sound, tree_is}
use Rattle.behaviour.proofs.Placed.{is, kids, PlacedOnce}

-- what is said of each place of a list, said from the front
kids_by : (g : Flat) (i : ℕ) (ks : List Shape) (d : Shape) → ((j : ℕ) → j < length ks → Kids g (i + j) (get_or ks j d)) → KidsFrom g i ks
kids_by g i [] d h = tt
kids_by g i (k ∷ ks) d h = (
  let e : i + 0 ≡ i = omega arith in subst (λ n. Kids g n k) e (h 0 (omega arith)),
  kids_by g (suc i) ks d (λ j l. let e : i + suc j ≡ suc i + j = omega arith in subst (λ n. Kids g n (get_or ks j d)) e (h (suc j) (omega arith))),
)

binds_by : (owner : ℕ → ℕ) (i : ℕ) (ks : List Shape) (d : Shape) → ((j : ℕ) → j < length ks → Binds owner (i + j) (get_or ks j d)) → BindsFrom owner i ks
binds_by owner i [] d h = tt
binds_by owner i (k ∷ ks) d h = (
  let e : i + 0 ≡ i = omega arith in subst (λ n. Binds owner n k) e (h 0 (omega arith)),
  binds_by owner (suc i) ks d (λ j l. let e : i + suc j ≡ suc i + j = omega arith in subst (λ n. Binds owner n (get_or ks j d)) e (h (suc j) (omega arith))),
)

-- who binds, as a number: 0 for a parameter, one more than the node for a node
code : Binder → ℕ
code (parameter i) = 0
code (rules.node m) = suc m

total_tally : (f : ℕ → ℕ) (k i : ℕ) → tallies.total f k i ≡ total f (range_with_len i k)
total_tally f zero i = refl
total_tally f (suc k) i = ap (λ n. f i + n) (total_tally f k (i + 1))

module _ (bs : List ℕ) (w : WellFormed bs) where
  abbrev l : Layout
  l = layout_of bs

  abbrev g : Flat
  g = flat bs

  abbrev K : ℕ
  K = node_count bs (layout_of bs)

  abbrev P : ℕ
  P = process_count bs (layout_of bs)

  abbrev V : ℕ
  V = variable_count bs

  count_nodes : K ≡ length g.nodes
  count_nodes = numbered_length (node_of bs l) K

  count_processes : P ≡ length g.processes
  count_processes = numbered_length (process_of bs l) P

  count_sizes : V ≡ length g.sizes
  count_sizes = numbered_length (size_of bs) V

  -- node n as the rules and as the flat model have it
  shape_of : (n : ℕ) → n < K → Shape
  shape_of n low = (w.sound.kinds n low).0

  shape_at_lem : (n : ℕ) (low : n < K) → shape_at bs l n ≡ Some (shape_of n low)
  unfolding shape_of
  shape_at_lem n low = shape_is bs l n (w.sound.kinds n low).0 (w.sound.kinds n low).1

  flat_at_lem : (n : ℕ) (low : n < K) (d : Shape) → get_or g.nodes n d ≡ shape_of n low
  unfolding shape_of
  flat_at_lem n low d = sym (numbered_at (node_of bs l) K n d low) ∙ ap or_delay (shape_at_lem n low)

  arity_is : (p : ℕ) → p < P → number_of bs l p ≡ call_arity g p
  arity_is p low = ap (λ (q : header.Process). q.number) (numbered_at (process_of bs l) P p nodes.no_process low)

  arguments_there : (f k : ℕ) → Run (argument_count bs l) f k → length (arguments_from g f k) ≡ k
  arguments_there f k r =
      let n : argument_count bs l ≡ length g.arguments = numbered_length (argument_of bs l) (argument_count bs l) in
      ⊎_elim (λ (h : 0 < k). let a = r.1 h in let b = length-drop f g.arguments in length-take-le k (drop f g.arguments) (omega arith))
      (λ (h : k ≤ 0). let z : k ≡ 0 = omega arith in subst (λ (j : ℕ). length (arguments_from g f j) ≡ j) (sym z) refl)
      (cases_lt 0 k)

  kid_of : (n c : ℕ) → rules.Child bs l n c → Kid g n c
  kid_of n c h = (h.0, subst (λ k. c < k) count_nodes h.1)

  kids_of : (n : ℕ) (s : Shape) → rules.Names bs l n s → Kids g n s
  kids_of n (shape.Call p f) h = (
    subst (λ k. p < k) count_processes h.0,
    arguments_there f (call_arity g p) (subst (Run (argument_count bs l) f) (arity_is p h.0) h.1),
  )
  kids_of n (shape.Condition e c) h = kid_of n c h
  kids_of n (shape.Choice x y) h = (kid_of n x h.0, kid_of n y h.1)
  kids_of n (shape.Sum v c) h = kid_of n c h.1
  kids_of n (shape.Action a f v e c) h = kid_of n c h.3
  kids_of n (shape.Delay r c) h = kid_of n c h

  kids_at_lem : (n : ℕ) (low : n < K) (d : Shape) → Kids g n (get_or g.nodes n d)
  unfolding shape_of
  kids_at_lem n low d = subst (Kids g n) (sym (flat_at_lem n low d)) (kids_of n (shape_of n low) (w.sound.names n (shape_of n low) (w.sound.kinds n low).1))

  pub all_kids : KidsFrom g 0 g.nodes
  all_kids = kids_by g 0 g.nodes (shape.Delay 0 0) (λ j i. let e : j ≡ 0 + j = omega arith in subst (λ n. Kids g n (get_or g.nodes j (shape.Delay 0 0))) e (kids_at_lem j (subst (λ k. j < k) (sym count_nodes) i) (shape.Delay 0 0)))

  -- the owner of a variable
  owner_from_lem : (v : ℕ) → (v < V) ⊎ (V ≤ v) → ℕ
  owner_from_lem v (inl low) = code (w.sound.bound v low).0
  owner_from_lem v (inr high) = 0

  owner_of : ℕ → ℕ
  owner_of v = owner_from_lem v (cases_lt v V)

  owner_is : (v : ℕ) (x : Binder) → v < V → rules.Binds bs l v x → owner_of v ≡ code x
  unfolding owner_of owner_from_lem
  owner_is v x low b = go (cases_lt v V)
    where
      go : (z : (v < V) ⊎ (V ≤ v)) → owner_from_lem v z ≡ code x
      go (inl i) = ap code (sym ((w.sound.bound v i).2 x b))
      go (inr i) = absurd (omega (arith, low))

  binds_of : (n : ℕ) (s : Shape) → IsNode bs l n s → rules.Names bs l n s → Binds owner_of n s
  unfolding code
  binds_of n (shape.Call p f) i h = tt
  binds_of n (shape.Condition e c) i h = tt
  binds_of n (shape.Choice x y) i h = tt
  binds_of n (shape.Sum v c) i h = owner_is v (rules.node n) h.0 (shape.Sum v c, i, refl)
  binds_of n (shape.Action a f v e c) i h = owner_is v (rules.node n) h.2 (shape.Action a f v e c, i, refl)
  binds_of n (shape.Delay r c) i h = tt

  binds_at : (n : ℕ) (low : n < K) (d : Shape) → Binds owner_of n (get_or g.nodes n d)
  unfolding shape_of
  binds_at n low d =
      subst (Binds owner_of n) (sym (flat_at_lem n low d))
      (binds_of n (shape_of n low) (w.sound.kinds n low).1 (w.sound.names n (shape_of n low) (w.sound.kinds n low).1))

  all_binds : BindsFrom owner_of 0 g.nodes
  all_binds = binds_by owner_of 0 g.nodes (shape.Delay 0 0) (λ j i. let e : j ≡ 0 + j = omega arith in subst (λ n. Binds owner_of n (get_or g.nodes j (shape.Delay 0 0))) e (binds_at j (subst (λ k. j < k) (sym count_nodes) i) (shape.Delay 0 0)))

  own_param : (i : ℕ) → i < P → (x : ℕ) → param (headed g (process_of bs l i)) x ≡ true → owner_of x ≡ 0
  unfolding code
  own_param i low x h =
      let z = and_parts (leb (first_of bs l i) x) (ltb x (first_of bs l i + number_of bs l i)) h in
      let a = leb-true (first_of bs l i) x z.0 in
      let b = ltb-true x (first_of bs l i + number_of bs l i) z.1 in
      let r = (w.limits.parameters i low).1.1 (omega arith) in
      owner_is x (parameter i) (omega arith) (low, a, b)

  all_processes : (Q : header.Process → Type 0) → ((i : ℕ) → i < P → Q (process_of bs l i)) → AllByRecursion Q g.processes
  all_processes Q h = All-map Q (process_of bs l) (range_with_len 0 P) (all_counting _ 0 P P (omega arith) h)

  start_process : process (model_of g) g.start ≡ headed g (process_of bs l (start_of bs l))
  start_process =
      let e = numbered_at (process_of bs l) P (start_of bs l) nodes.no_process w.limits.start in
      get_or_headed g.processes (start_of bs l) (subst (λ n. start_of bs l < n) count_processes w.limits.start) ∙ ap (headed g) (sym e)
    where
      get_or_headed : (qs : List header.Process) (k : ℕ) → k < length qs → get_or (map (headed g) qs) k no_process ≡ headed g (get_or qs k nodes.no_process)
      get_or_headed [] k h = absurd (omega arith)
      get_or_headed (q ∷ qs) zero h = refl
      get_or_headed (q ∷ qs) (suc k) h = get_or_headed qs k (omega arith)

  start_small : (x : ℕ) → x < V → param (headed g (process_of bs l (start_of bs l))) x ≡ true → get_or g.values (x - first_of bs l (start_of bs l)) 0 < get_or g.sizes x 0
  start_small x low h =
      let i = start_of bs l in
      let z = and_parts (leb (first_of bs l i) x) (ltb x (first_of bs l i + number_of bs l i)) h in
      let a = leb-true (first_of bs l i) x z.0 in
      let b = ltb-true x (first_of bs l i + number_of bs l i) z.1 in
      let k = x - first_of bs l i in
      let m : k < number_of bs l i = omega arith in
      let e : first_of bs l i + k ≡ x = omega arith in
      let r = w.limits.values k m in
      let s : value_of bs l k ≡ get_or g.values k 0 = numbered_at (value_of bs l) (number_of bs l i) k 0 m in
      let t : size_of bs x ≡ get_or g.sizes x 0 = numbered_at (size_of bs) V x 0 low in
      let u : value_of bs l k < size_of bs x = subst (λ y. value_of bs l k < size_of bs y) e r in
      omega (arith, s, t, u)

  pub well_made : WellMade g
  well_made = record {
    owner = owner_of;
    binds = all_binds;
    own_params = all_processes _ own_param;
    kids = all_kids;
    bodies = all_processes _ (λ i low. subst (λ n. body_of bs l i < n) count_nodes (w.sound.bodies i low));
    starts = subst (λ n. start_of bs l < n) count_processes w.limits.start;
    sizes = λ x low. (let i : x < V = subst (λ n. x < n) (sym count_sizes) low in
        let e = numbered_at (size_of bs) V x 0 i in let h = (w.limits.sizes x i).0 in subst (λ n. 0 < n) e h);
    values = λ x low h.
        subst (λ (q : Process). get_or g.values (x - q.first) 0 < get_or g.sizes x 0) (sym start_process)
        (start_small x (subst (λ n. x < n) (sym count_sizes) low) (subst (λ q. param q x ≡ true) start_process h));
  }

  unfoldable pub accepted_sound : Sound (model_of g)
  accepted_sound = sound g well_made

  pub accepted_tree : accepted_sound.tree ≡ tree_of g
  unfolding accepted_sound sound
  accepted_tree = refl

  -- the children of a node's tree
  root_number : (n : ℕ) (s : Shape) (f : ℕ → Tree) → node (planted g n s f) ≡ n
  root_number n (shape.Call p f) h = refl
  root_number n (shape.Condition e c) h = refl
  root_number n (shape.Choice x y) h = refl
  root_number n (shape.Sum v c) h = refl
  root_number n (shape.Action a f v e c) h = refl
  root_number n (shape.Delay r c) h = refl

  d : Shape
  d = shape.Delay 0 0

  its_number : (n : ℕ) → n < length g.nodes → node (tree_of g n) ≡ n
  its_number n low = ap node (tree_is g all_kids d n low) ∙ root_number n (get_or g.nodes n d) (tree_of g)

  is_one : (n c : ℕ) → is n c ≡ one (eqb c n)
  unfolding is
  is_one n c = refl

  kids_planted : (k : ℕ) (s : Shape) (n : ℕ) → Kids g k s → kids (planted g k s (tree_of g)) n ≡ occurs n (children_of s)
  unfolding is
  kids_planted k (shape.Call p f) n j = refl
  kids_planted k (shape.Condition e c) n j = ap (λ i. one (eqb i n)) (its_number c j.1) ∙ omega arith
  kids_planted k (shape.Choice x y) n j = ap₂ (λ a b. one (eqb a n) + one (eqb b n)) (its_number x j.0.1) (its_number y j.1.1) ∙ omega arith
  kids_planted k (shape.Sum v c) n j = ap (λ i. one (eqb i n)) (its_number c j.1) ∙ omega arith
  kids_planted k (shape.Action a f v e c) n j = ap (λ i. one (eqb i n)) (its_number c j.1) ∙ omega arith
  kids_planted k (shape.Delay r c) n j = ap (λ i. one (eqb i n)) (its_number c j.1) ∙ omega arith

  kids_are : (k n : ℕ) → k < K → kids (tree_of g k) n ≡ children n (shape_at bs l k)
  unfolding shape_of
  kids_are k n low =
      ap (λ t. kids t n) (tree_is g all_kids d k (subst (λ z. k < z) count_nodes low))
      ∙ kids_planted k (get_or g.nodes k d) n (kids_at_lem k low d)
      ∙ ap (λ s. occurs n (children_of s)) (flat_at_lem k low d)
      ∙ sym (ap (children n) (shape_at_lem k low))

  no_child : (k n : ℕ) (s : Shape) → n ≤ k → Kids g k s → occurs n (children_of s) ≡ 0
  no_child k n (shape.Call p f) h j = refl
  no_child k n (shape.Condition e c) h j = let q = ne_eqb c n (λ q. omega (arith, q, j.0)) in rw q refl
  no_child k n (shape.Choice a b) h j = let q = ne_eqb a n (λ q. omega (arith, q, j.0.0)) in let r = ne_eqb b n (λ q. omega (arith, q, j.1.0)) in rw (q, r) refl
  no_child k n (shape.Sum v c) h j = let q = ne_eqb c n (λ q. omega (arith, q, j.0)) in rw q refl
  no_child k n (shape.Action a f v e c) h j = let q = ne_eqb c n (λ q. omega (arith, q, j.0)) in rw q refl
  no_child k n (shape.Delay r c) h j = let q = ne_eqb c n (λ q. omega (arith, q, j.0)) in rw q refl

  placed_sum : (n : ℕ) → n < K → total (λ i. one (eqb (body_of bs l i) n)) (range_with_len 0 P) + total (λ k. children n (shape_at bs l k)) (range_with_len 0 K) ≡ 1
  placed_sum n low =
      let a = eqb-true (tallies.total (λ i. one (eqb (body_of bs l i) n)) P 0 + tallies.total (λ k. children n (shape_at bs l k)) K 0) 1 (once_made bs l n (w.sound.placed n low)) in
      let b = total_tally (λ i. one (eqb (body_of bs l i) n)) P 0 in
      let c = total_tally (λ k. children n (shape_at bs l k)) K 0 in
      omega (arith, a, b, c)

  bodies_sum : (n : ℕ) → total (λ q. is n (node q.body)) (map (headed g) g.processes) ≡ total (λ i. one (eqb (body_of bs l i) n)) (range_with_len 0 P)
  unfolding is
  bodies_sum n =
      total_map (λ (q : Process). one (eqb (node q.body) n)) (headed g) g.processes
      ∙ total_map (λ (q : header.Process). one (eqb (node (tree_of g q.body)) n)) (process_of bs l) (range_with_len 0 P)
      ∙ total_all _ _ (range_with_len 0 P) (all_counting _ 0 P P (omega arith) (λ i low. ap (λ k. one (eqb k n)) (its_number (body_of bs l i) (subst (λ z. body_of bs l i < z) count_nodes (w.sound.bodies i low)))))

  kids_sum : (n : ℕ) → total (λ k. kids (tree_of g k) n) (range_with_len 0 (length g.nodes)) ≡ total (λ k. children n (shape_at bs l k)) (range_with_len 0 K)
  kids_sum n =
      ap (λ z. total (λ k. kids (tree_of g k) n) (range_with_len 0 z)) (sym count_nodes)
      ∙ total_all _ _ (range_with_len 0 K) (all_counting _ 0 K K (omega arith) (λ k low. kids_are k n low))

  pub accepted_once : PlacedOnce (model_of g) (tree_of g)
  unfolding shape_of
  accepted_once = record {
    higher = λ k n h. ⊎_elim (λ (i : k < K). kids_are k n i ∙ ap (children n) (shape_at_lem k i) ∙ no_child k n (shape_of k i) h (kids_of k (shape_of k i) (w.sound.names k (shape_of k i) (w.sound.kinds k i).1)))
        (λ i. ap (λ t. kids t n) (get_or-eq_default (grown g 0 g.nodes) (call 0 0 []) (let e = length_grown 0 g.nodes in omega (arith, count_nodes)))) (cases_lt k K);
    placed = λ n h. ap₂ ◌+◌ (bodies_sum n) (kids_sum n) ∙ placed_sum n (subst (λ z. n < z) (sym count_nodes) h);
  }
    where
      length_grown : (i : ℕ) (ks : List Shape) → length (grown g i ks) ≡ length ks
      length_grown i [] = refl
      length_grown i (k ∷ ks) = ap suc (length_grown (suc i) ks)

  -- node n, of which the rules say that it is s
  pub record At (n : ℕ) (s : Shape) : Type 0 where
    pub low : n < K
    pub there : node_in g n ≡ value_in g (Some s)
    pub tree : tree_of g n ≡ planted g n s (tree_of g)
    pub kids : Kids g n s
    pub names : rules.Names bs l n s

  pub at_node_lem : (n : ℕ) (s : Shape) → IsNode bs l n s → At n s
  at_node_lem n s i =
      let e : node_of bs l n ≡ s = ap or_delay (shape_is bs l n s i) in
      let low : n < length g.nodes = subst (λ k. n < k) count_nodes i.0 in
      record {
        low = i.0;
        there = ap (value_in g) (sym (numbered_nth (node_of bs l) K n i.0) ∙ ap Some e);
        tree = tree_is g all_kids d n low ∙ ap (λ k. planted g n k (tree_of g)) (sym (numbered_at (node_of bs l) K n d i.0) ∙ e);
        kids = kids_of n s (w.sound.names n s i);
        names = w.sound.names n s i;
      }

  pub number_of_lem : (n : ℕ) → n < K → node (tree_of g n) ≡ n
  number_of_lem n low = its_number n (subst (λ k. n < k) count_nodes low)

  pub nodes_counted : length g.nodes ≡ K
  nodes_counted = sym count_nodes
