-- The summands node by node: each from what stands above its node. Assumes nothing.
use Rattle.std.proofs.Common.{◌≡◌, ℕ, suc, ◌+◌, ◌<◌, ◌≤◌, Bool, true, false, cond, not, eqb, List, [], ◌∷◌, ◌++◌, map, length, replicate, filter, sym, refl, ap, ◌∙◌, subst, ap₂, subst₂, ⊎_elim, arith, length-append}
use mathlib.Core.Path.{fun_ext}
use lib.Seq.{append_snoc}
use Rattle.std.specs.List.{range_with_len, flat_map, prefix_len, AllByRecursion}
use Rattle.std.proofs.lemmas.List.{append-nil}
use Rattle.std.proofs.ByRecursion.{All-weaker, All-append, All-map}
use Rattle.std.proofs.lemmas.Bool.{eq-eqb, ne_eqb, eqb-true, cases_lt}
use Rattle.model.specs.Trees.{Tree, call, when, choice, sum, action, delay}
use Rattle.source.specs.Models.{node, Model, Next, calls, rests, next}
use Rattle.valuation.specs.Doings.{Does, acts, waits}
use Rattle.linear.specs.Equations.{Guarded}
use Rattle.behaviour.specs.Passing.{place_itself, and_sum, and_condition}
use Rattle.behaviour.specs.Ways.{Way, ways, add_sum, add_condition, numbered, all_ways}
use Rattle.source.specs.Places.{below, rest, unsorted, places, counter}
use Rattle.source.specs.Sound.{Numbered, Sound}
use Rattle.source.proofs.Totals.{total, total_append, total_joined, total_map, total_in_order}
use Rattle.behaviour.proofs.Placed.{is, nodes_of, is_leaf, leafs, PlacedOnce, all_nodes, all_below, occurs, once_each}
use Rattle.behaviour.proofs.Kept.{all_joined, all_in_order, all_any}
use Rattle.source.proofs.Enumerate.{all_counting}

abbrev pub doing : Tree → Does
doing (call n p es) = waits 0
doing (when n e t) = waits 0
doing (choice n l r) = waits 0
doing (sum n x t) = waits 0
doing (action n a es x w t) = acts a es x w
doing (delay n r t) = waits r

abbrev pub going : Tree → Next
going (call n p es) = calls 0 []
going (when n e t) = calls 0 []
going (choice n l r) = calls 0 []
going (sum n x t) = calls 0 []
going (action n a es x w t) = next t
going (delay n r t) = next t

module _ (m : Model) (tree : ℕ → Tree) (above : ℕ → Guarded) where
  abbrev pub Arrived : Next → Type 0
  Arrived (calls p es) = Unit {0}
  Arrived (rests t) = above (node t) ≡ place_itself (counter m (node t))

  -- `above` passes from each node to its children
  abbrev pub Passes : Tree → Type 0
  Passes (call n p es) = Unit {0}
  Passes (when n e t) = (above (node t) ≡ and_condition e (above n)) × Passes t
  Passes (choice n l r) = (above (node l) ≡ above n) × (above (node r) ≡ above n) × Passes l × Passes r
  Passes (sum n x t) = (above (node t) ≡ and_sum x (above n)) × Passes t
  Passes (action n a es x w t) = Arrived (next t) × Passes t
  Passes (delay n r t) = Arrived (next t) × Passes t

  -- a way, given what stands above the tree it starts in
  abbrev FitsAbove : Guarded → Way → Type 0
  FitsAbove u y = (above y.leaf ≡ record { counter = u.counter; sums = u.sums ++ y.sums; conditions = u.conditions ++ y.conditions }) × (y.doing ≡ doing (tree y.leaf)) × (y.then ≡ going (tree y.leaf))

  ways_above : (t : Tree) (u : Guarded) → Numbered m tree t → Passes t → above (node t) ≡ u → AllByRecursion (FitsAbove u) (ways t)
  ways_above (call n p es) u h q e = tt
  ways_above (when n c t) u h q e =
      All-map (FitsAbove u) (add_condition c) (ways t)
      (All-weaker _ _ (λ y f. (f.0 ∙ ap (λ z. record { counter = u.counter; sums = u.sums ++ y.sums; conditions = z }) (append_snoc u.conditions c y.conditions), f.1, f.2)) (ways t)
      (ways_above t (and_condition c u) h.1 q.1 (q.0 ∙ ap (and_condition c) e)))
  ways_above (choice n l r) u h q e =
      All-append _ (ways l) (ways r) (ways_above l u h.1 q.2 (q.0 ∙ e)) (ways_above r u h.2 q.3 (q.1 ∙ e))
  ways_above (sum n x t) u h q e =
      All-map (FitsAbove u) (add_sum x) (ways t)
      (All-weaker _ _ (λ y f. (f.0 ∙ ap (λ z. record { counter = u.counter; sums = z; conditions = u.conditions ++ y.conditions }) (append_snoc u.sums x y.sums), f.1, f.2)) (ways t)
      (ways_above t (and_sum x u) h.1 q.1 (q.0 ∙ ap (and_sum x) e)))
  ways_above (action n a es x w t) u h q e =
      ((e ∙ ap₂ (λ a b. record { counter = u.counter; sums = a; conditions = b }) (sym (append-nil u.sums)) (sym (append-nil u.conditions)), sym (ap doing h.0.1), sym (ap going h.0.1)), tt)
  ways_above (delay n r t) u h q e =
      ((e ∙ ap₂ (λ a b. record { counter = u.counter; sums = a; conditions = b }) (sym (append-nil u.sums)) (sym (append-nil u.conditions)), sym (ap doing h.0.1), sym (ap going h.0.1)), tt)

  -- the way to node i, and its place's counter
  abbrev pub way_to : ℕ → ℕ × Way
  way_to i = ((above i).counter, record { leaf = i; sums = (above i).sums; conditions = (above i).conditions; doing = doing (tree i); then = going (tree i) })

  tagged : (c : ℕ) (y : Way) → FitsAbove (place_itself c) y → (c, y) ≡ way_to y.leaf
  tagged c y f = let q = sym f.0 in λ i. ((q i).counter, record { leaf = y.leaf; sums = (q i).sums; conditions = (q i).conditions; doing = f.1 i; then = f.2 i })

-- what is known of each element with key i, by a list of them
kept_is : {X : Type 0} (key : X → ℕ) (F : ℕ → X) (i : ℕ) (xs : List X) → AllByRecursion (λ x. x ≡ F (key x)) xs → filter (λ x. eqb (key x) i) xs ≡ replicate (total (λ x. is i (key x)) xs) (F i)
unfolding is
kept_is key F i [] a = refl
kept_is {X} key F i (x ∷ xs) a = go (eqb (key x) i) refl (kept_is key F i xs a.1)
  where
    go : (b : Bool) → eqb (key x) i ≡ b → filter (λ x. eqb (key x) i) xs ≡ replicate (total (λ x. cond (eqb (key x) i) 1 0) xs) (F i)
        → cond b (x ∷ filter (λ x. eqb (key x) i) xs) (filter (λ x. eqb (key x) i) xs) ≡ replicate (cond b 1 0 + total (λ x. cond (eqb (key x) i) 1 0) xs) (F i)
    go true e ih =
        let q : 1 + total (λ x. cond (eqb (key x) i) 1 0) xs ≡ suc (total (λ x. cond (eqb (key x) i) 1 0) xs) = omega arith in
        rw q (ap₂ {C = List X} ◌∷◌ (a.0 ∙ ap F (eqb-true _ _ e)) ih)
    go false e ih = let q : 0 + total (λ x. cond (eqb (key x) i) 1 0) xs ≡ total (λ x. cond (eqb (key x) i) 1 0) xs = omega arith in rw q ih

-- places that stand once have their position for a counter
module _ (n : ℕ) where
  passing : (xs ys : List Tree) → total (λ t. is n (node t)) xs ≡ 0 → prefix_len (λ t. not (eqb (node t) n)) (xs ++ ys) ≡ length xs + prefix_len (λ t. not (eqb (node t) n)) ys
  unfolding is
  passing [] ys h = omega arith
  passing (x ∷ xs) ys h = go (eqb (node x) n) refl (λ k. passing xs ys k)
    where
      go : (b : Bool) → eqb (node x) n ≡ b → (total (λ t. cond (eqb (node t) n) 1 0) xs ≡ 0 → prefix_len (λ t. not (eqb (node t) n)) (xs ++ ys) ≡ length xs + prefix_len (λ t. not (eqb (node t) n)) ys)
          → cond (not b) (1 + prefix_len (λ t. not (eqb (node t) n)) (xs ++ ys)) 0 ≡ suc (length xs) + prefix_len (λ t. not (eqb (node t) n)) ys
      go true e r = let k : cond true 1 0 + total (λ t. cond (eqb (node t) n) 1 0) xs ≡ 0 = rw e at h in absurd (omega arith)
      go false e r = let k : cond false 1 0 + total (λ t. cond (eqb (node t) n) 1 0) xs ≡ 0 = rw e at h in let j = r (omega arith) in omega arith

positions : (all pre xs : List Tree) → all ≡ pre ++ xs → ((n : ℕ) → total (λ t. is n (node t)) all ≤ 1)
    → (k : ℕ) → k ≡ suc (length pre) → AllByRecursion (λ z. suc (prefix_len (λ t. not (eqb (node t) (node z.1))) all) ≡ z.0) (numbered k xs)
unfolding is
positions all pre [] e h k q = tt
positions all pre (x ∷ xs) e h k q = (first, positions all (pre ++ (x ∷ [])) xs (e ∙ sym (append_snoc pre x xs)) h (suc k) (let z = length-append pre (x ∷ []) in omega arith))
  where
    none : total (λ t. is (node x) (node t)) pre ≡ 0
    none =
        let a : total (λ t. is (node x) (node t)) (pre ++ x ∷ xs) ≤ 1 = subst (λ ts. total (λ t. is (node x) (node t)) ts ≤ 1) e (h (node x)) in
        let b = total_append (λ t. is (node x) (node t)) pre (x ∷ xs) in
        let c : is (node x) (node x) ≡ 1 = ap (λ b. cond b 1 0) (eq-eqb (node x) (node x) refl) in omega arith

    first : suc (prefix_len (λ t. not (eqb (node t) (node x))) all) ≡ k
    first =
        let a : prefix_len (λ t. not (eqb (node t) (node x))) all ≡ length pre + prefix_len (λ t. not (eqb (node t) (node x))) (x ∷ xs) = ap (prefix_len (λ t. not (eqb (node t) (node x)))) e ∙ passing (node x) pre (x ∷ xs) none in
        let b : prefix_len (λ t. not (eqb (node t) (node x))) (x ∷ xs) ≡ 0 = ap (λ b. cond (not b) (1 + prefix_len (λ t. not (eqb (node t) (node x))) xs) 0) (eq-eqb (node x) (node x) refl) in
        omega arith

total_le : {X : Type 0} (f g : X → ℕ) (xs : List X) → AllByRecursion (λ x. f x ≤ g x) xs → total f xs ≤ total g xs
total_le f g [] a = omega arith
total_le f g (x ∷ xs) a = let ih = total_le f g xs a.1 in omega (arith, a.0)

beyond : (b n : ℕ) (xs : List ℕ) → b ≤ n → AllByRecursion (λ x. x < b) xs → total (is n) xs ≡ 0
unfolding is
beyond b n [] l a = refl
beyond b n (x ∷ xs) l a = let ih = beyond b n xs l a.1 in let e = ne_eqb x n (λ q. omega (arith, q, a.0)) in rw e (omega arith)

module _ (n : ℕ) where
  at_node : Tree → ℕ
  at_node t = is n (node t)

  rest_le : (t : Tree) → total at_node (rest (next t)) ≤ at_node t
  rest_le (call k p es) = omega arith
  rest_le (when k e t) = omega arith
  rest_le (choice k l r) = omega arith
  rest_le (sum k x t) = omega arith
  rest_le (action k a es x w t) = omega arith
  rest_le (delay k r t) = omega arith

  below_le : (t : Tree) → at_node t + total at_node (below t) ≤ total (is n) (nodes_of t)
  unfolding at_node
  below_le (call k p es) = omega arith
  below_le (when k e t) = let a = below_le t in omega arith
  below_le (choice k l r) = let a = below_le l in let b = below_le r in let c = total_append at_node (below l) (below r) in let d = total_append (is n) (nodes_of l) (nodes_of r) in omega arith
  below_le (sum k x t) = let a = below_le t in omega arith
  below_le (action k b es x w t) = let a = below_le t in let c = total_append at_node (rest (next t)) (below t) in let d = rest_le t in omega arith
  below_le (delay k r t) = let a = below_le t in let c = total_append at_node (rest (next t)) (below t) in let d = rest_le t in omega arith

all_numbered : {X : Type 0} (P : X → Type 0) (k : ℕ) (xs : List X) → AllByRecursion P xs → AllByRecursion (λ (z : ℕ × X). P z.1) (numbered k xs)
all_numbered P k [] a = tt
all_numbered P k (x ∷ xs) a = (a.0, all_numbered P (suc k) xs a.1)

total_numbered : {X : Type 0} (f : X → ℕ) (k : ℕ) (xs : List X) → total (λ (z : ℕ × X). f z.1) (numbered k xs) ≡ total f xs
total_numbered f k [] = refl
total_numbered f k (x ∷ xs) = ap (λ z. f x + z) (total_numbered f (suc k) xs)

all_two : {X : Type 0} (P Q : X → Type 0) (xs : List X) → AllByRecursion P xs → AllByRecursion Q xs → AllByRecursion (λ x. P x × Q x) xs
all_two P Q [] a b = tt
all_two P Q (x ∷ xs) a b = ((a.0, b.0), all_two P Q xs a.1 b.1)

module _ (m : Model) (s : Sound m) (w : PlacedOnce m s.tree) (above : ℕ → Guarded)
    (bodies : AllByRecursion (λ q. (above (node q.body) ≡ place_itself (counter m (node q.body))) × Passes m s.tree above q.body) m.processes) where
  root : (t : Tree) → Numbered m s.tree t → node t < m.nodes
  root (call k p es) h = h.0
  root (when k e t) h = h.0.0
  root (choice k l r) h = h.0.0
  root (sum k x t) h = h.0.0
  root (action k a es x v t) h = h.0.0
  root (delay k r t) h = h.0.0

  at_rest : (t : Tree) → Numbered m s.tree t → AllByRecursion (λ u. node u < m.nodes) (rest (next t))
  at_rest (call k p es) h = tt
  at_rest (when k e t) h = (h.0.0, tt)
  at_rest (choice k l r) h = (h.0.0, tt)
  at_rest (sum k x t) h = (h.0.0, tt)
  at_rest (action k a es x v t) h = (h.0.0, tt)
  at_rest (delay k r t) h = (h.0.0, tt)

  roots : (t : Tree) → Numbered m s.tree t → AllByRecursion (λ u. node u < m.nodes) (below t)
  roots (call k p es) h = tt
  roots (when k e t) h = roots t h.1
  roots (choice k l r) h = All-append _ (below l) (below r) (roots l h.1) (roots r h.2)
  roots (sum k x t) h = roots t h.1
  roots (action k a es x v t) h = All-append _ (rest (next t)) (below t) (at_rest t h.1) (roots t h.1)
  roots (delay k r t) h = All-append _ (rest (next t)) (below t) (at_rest t h.1) (roots t h.1)

  here : AllByRecursion (λ t. node t < m.nodes) (unsorted m)
  here = all_joined _ (λ q. q.body ∷ below q.body) m.processes (All-weaker _ _ (λ q h. (root q.body h, roots q.body h)) m.processes s.numbered)

  places_once : (n : ℕ) → total (λ t. is n (node t)) (places m) ≤ 1
  unfolding at_node all_nodes
  places_once n =
      let a = total_in_order (at_node n) node m.nodes (unsorted m) here in
      let b : total (at_node n) (unsorted m) ≤ total (is n) (all_nodes m s w) = subst₂ ◌≤◌ (sym (total_joined (at_node n) (λ q. q.body ∷ below q.body) m.processes)) (sym (total_joined (is n) (λ q. nodes_of q.body) m.processes)) (total_le _ _ m.processes (all_any _ m.processes (λ q. below_le n q.body))) in
      let c : total (is n) (all_nodes m s w) ≤ 1 = ⊎_elim (λ l. let e = occurs m s w (suc n) n (omega arith) l in omega arith) (λ l. let e = beyond m.nodes n (all_nodes m s w) l (all_below m s w) in omega arith) (cases_lt n m.nodes) in
      omega arith

  -- what is known of a place
  abbrev Known : Tree → Type 0
  Known t = Numbered m s.tree t × Passes m s.tree above t × (above (node t) ≡ place_itself (counter m (node t)))

  known_rest : (t : Tree) → Numbered m s.tree t → Passes m s.tree above t → Arrived m s.tree above (next t) → AllByRecursion Known (rest (next t))
  known_rest (call k p es) h q e = tt
  known_rest (when k c t) h q e = ((h, q, e), tt)
  known_rest (choice k l r) h q e = ((h, q, e), tt)
  known_rest (sum k x t) h q e = ((h, q, e), tt)
  known_rest (action k a es x v t) h q e = ((h, q, e), tt)
  known_rest (delay k r t) h q e = ((h, q, e), tt)

  known_below : (t : Tree) → Numbered m s.tree t → Passes m s.tree above t → AllByRecursion Known (below t)
  known_below (call k p es) h q = tt
  known_below (when k c t) h q = known_below t h.1 q.1
  known_below (choice k l r) h q = All-append _ (below l) (below r) (known_below l h.1 q.2) (known_below r h.2 q.3)
  known_below (sum k x t) h q = known_below t h.1 q.1
  known_below (action k a es x v t) h q = All-append _ (rest (next t)) (below t) (known_rest t h.1 q.1 q.0) (known_below t h.1 q.1)
  known_below (delay k r t) h q = All-append _ (rest (next t)) (below t) (known_rest t h.1 q.1 q.0) (known_below t h.1 q.1)

  known : AllByRecursion Known (places m)
  known =
      all_in_order Known node m.nodes (unsorted m)
      (all_joined Known (λ q. q.body ∷ below q.body) m.processes
      (All-weaker _ _ (λ q h. ((h.0, h.1.1, h.1.0), known_below q.body h.0 h.1.1)) m.processes (all_two _ _ m.processes s.numbered bodies)))

  -- Each action or delay node gives one way, in node order, with what stands above it.
  pub by_node : all_ways m ≡ flat_map (λ i. replicate (is_leaf (s.tree i)) (way_to m s.tree above i)) (range_with_len 0 m.nodes)
  unfolding leafs
  by_node = joined_same _ _ (range_with_len 0 m.nodes) (all_counting _ 0 m.nodes m.nodes (omega arith) (λ i l.
      kept_is (λ (z : ℕ × Way). z.1.leaf) (way_to m s.tree above) i list are ∙ ap (λ k. replicate k (way_to m s.tree above i)) (counted i ∙ once_each m s w i l)))
    where
      list : List (ℕ × Way)
      list = flat_map (λ (z : ℕ × Tree). map {B = ℕ × Way} (λ y. (z.0, y)) (ways z.1)) (numbered 1 (places m))

      are : AllByRecursion (λ z. z ≡ way_to m s.tree above z.1.leaf) list
      are =
          all_joined _ (λ (z : ℕ × Tree). map {B = ℕ × Way} (λ y. (z.0, y)) (ways z.1)) (numbered 1 (places m))
          (All-weaker _ _ (λ z k. All-map _ (λ y. (z.0, y)) (ways z.1) (All-weaker _ _ (λ y f. tagged m s.tree above z.0 y f) (ways z.1) (ways_above m s.tree above z.1 (place_itself z.0) k.0.0 k.0.1 (k.0.2 ∙ ap place_itself k.1)))) (numbered 1 (places m))
          (all_two _ _ (numbered 1 (places m)) (all_numbered Known 1 (places m) known) (positions (places m) [] (places m) refl places_once 1 refl)))

      counted : (i : ℕ) → total (λ z. is i z.1.leaf) list ≡ total (leafs i) (unsorted m)
      counted i =
          total_joined (λ (z : ℕ × Way). is i z.1.leaf) (λ (z : ℕ × Tree). map {B = ℕ × Way} (λ y. (z.0, y)) (ways z.1)) (numbered 1 (places m))
          ∙ ap (λ g. total g (numbered 1 (places m))) (fun_ext (λ z. total_map (λ (z : ℕ × Way). is i z.1.leaf) (λ y. (z.0, y)) (ways z.1)))
          ∙ total_numbered (leafs i) 1 (places m)
          ∙ total_in_order (leafs i) node m.nodes (unsorted m) here

      joined_same : {X Z : Type 0} (f g : X → List Z) (xs : List X) → AllByRecursion (λ x. f x ≡ g x) xs → flat_map f xs ≡ flat_map g xs
      joined_same f g [] a = refl
      joined_same f g (x ∷ xs) a = ap₂ {C = List _} ◌++◌ a.0 (joined_same f g xs a.1)
