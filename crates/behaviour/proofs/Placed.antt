-- Where each node is a child or a body once, each action or delay node gives one summand. Assumes nothing.
use Rattle.std.proofs.Common.{◌≡◌, ℕ, zero, suc, ◌+◌, ◌*◌, ◌<◌, ◌≤◌, Bool, true, false, cond, eqb, ◌⊎◌, List, [], ◌∷◌, ◌++◌, sym, refl, ap, ◌∙◌, inl, inr, ⊎_elim, arith}
use Rattle.std.specs.List.{range_with_len, flat_map, AllByRecursion}
use Rattle.std.proofs.ByRecursion.{All-weaker, All-append}
use Rattle.std.proofs.lemmas.Bool.{eqb-true, cases_lt}
use Rattle.model.specs.Trees.{Tree, call, when, choice, sum, action, delay}
use Rattle.source.specs.Models.{node, Model, next}
use Rattle.behaviour.specs.Ways.{ways, add_sum, add_condition}
use Rattle.source.specs.Places.{below, rest, unsorted}
use Rattle.source.specs.Sound.{Numbered, Sound}
use Rattle.source.proofs.Totals.{total, total_append, total_joined, total_map, total_plus, total_swap, total_all}
use Rattle.behaviour.proofs.Kept.{all_joined}
use Rattle.source.proofs.Enumerate.{at_one, all_counting}

unfoldable pub is : ℕ → ℕ → ℕ
is n k = cond (eqb k n) 1 0

-- the numbers of a tree's nodes
abbrev pub nodes_of : Tree → List ℕ
nodes_of (call n p es) = n ∷ []
nodes_of (when n e t) = n ∷ nodes_of t
nodes_of (choice n l r) = n ∷ (nodes_of l ++ nodes_of r)
nodes_of (sum n x t) = n ∷ nodes_of t
nodes_of (action n a es x w t) = n ∷ nodes_of t
nodes_of (delay n r t) = n ∷ nodes_of t

-- how often n is a child of the tree's root
abbrev pub kids : Tree → ℕ → ℕ
kids (call n p es) i = 0
kids (when n e t) i = is i (node t)
kids (choice n l r) i = is i (node l) + is i (node r)
kids (sum n x t) i = is i (node t)
kids (action n a es x w t) i = is i (node t)
kids (delay n r t) i = is i (node t)

module _ (m : Model) (tree : ℕ → Tree) (i : ℕ) where
  kids_at : ℕ → ℕ
  kids_at k = kids (tree k) i

  at_root : (n : ℕ) (t : Tree) (xs : List ℕ) (c d : ℕ) → tree n ≡ t → kids t i ≡ c → total (is i) xs ≡ c + d → is i n + total (is i) xs ≡ is i n + (kids_at n + d)
  unfolding kids_at
  at_root n t xs c d e k h = let q : kids (tree n) i ≡ c = ap (λ u. kids u i) e ∙ k in omega arith

  -- a node of a tree is its root or the child of a node of the tree
  by_parents : (t : Tree) → Numbered m tree t → total (is i) (nodes_of t) ≡ is i (node t) + total kids_at (nodes_of t)
  unfolding kids_at
  by_parents (call n p es) h = let q : kids (tree n) i ≡ 0 = ap (λ u. kids u i) h.1 in omega arith
  by_parents (when n e t) h = at_root n (when n e t) (nodes_of t) _ _ h.0.1 refl (by_parents t h.1)
  by_parents (choice n l r) h =
      at_root n (choice n l r) (nodes_of l ++ nodes_of r) _ _ h.0.1 refl
      (let a = by_parents l h.1 in let b = by_parents r h.2 in let c = total_append (is i) (nodes_of l) (nodes_of r) in let d = total_append kids_at (nodes_of l) (nodes_of r) in omega arith)
  by_parents (sum n x t) h = at_root n (sum n x t) (nodes_of t) _ _ h.0.1 refl (by_parents t h.1)
  by_parents (action n a es x w t) h = at_root n (action n a es x w t) (nodes_of t) _ _ h.0.1 refl (by_parents t h.1)
  by_parents (delay n r t) h = at_root n (delay n r t) (nodes_of t) _ _ h.0.1 refl (by_parents t h.1)

-- each action or delay node of a tree is the leaf of a way of the tree, or of a place below it
abbrev pub is_leaf : Tree → ℕ
is_leaf (call n p es) = 0
is_leaf (when n e t) = 0
is_leaf (choice n l r) = 0
is_leaf (sum n x t) = 0
is_leaf (action n a es x w t) = 1
is_leaf (delay n r t) = 1

unfoldable pub leafs : ℕ → Tree → ℕ
leafs i t = total (λ y. is i y.leaf) (ways t)

module _ (m : Model) (tree : ℕ → Tree) (i : ℕ) where
  -- node k, if it is i and an action or delay
  leaf_at : ℕ → ℕ
  leaf_at k = cond (eqb k i) (is_leaf (tree k)) 0

  leaf_at_is : (n : ℕ) (t : Tree) → tree n ≡ t → leaf_at n ≡ cond (eqb n i) (is_leaf t) 0
  unfolding leaf_at
  leaf_at_is n t e = ap (λ u. cond (eqb n i) (is_leaf u) 0) e

  zero_either : (b : Bool) → ◌≡◌ {A = ℕ} (cond b 0 0) 0
  zero_either true = refl
  zero_either false = refl

  inner : (n : ℕ) (t : Tree) → tree n ≡ t → is_leaf t ≡ 0 → leaf_at n ≡ 0
  inner n t e z = leaf_at_is n t e ∙ ap (λ v. cond (eqb n i) v 0) z ∙ zero_either (eqb n i)

  rests_leafs : (t : Tree) → total (leafs i) (rest (next t)) ≡ leafs i t
  unfolding leafs
  rests_leafs (call n p es) = refl
  rests_leafs (when n e t) = omega arith
  rests_leafs (choice n l r) = omega arith
  rests_leafs (sum n x t) = omega arith
  rests_leafs (action n a es x w t) = omega arith
  rests_leafs (delay n r t) = omega arith

  by_leaves : (t : Tree) → Numbered m tree t → leafs i t + total (leafs i) (below t) ≡ total leaf_at (nodes_of t)
  unfolding leafs is
  by_leaves (call n p es) h = let a = inner n _ h.1 refl in omega arith
  by_leaves (when n e t) h = let a = inner n _ h.0.1 refl in let b = by_leaves t h.1 in let c = total_map (λ y. is i y.leaf) (add_condition e) (ways t) in omega arith
  by_leaves (choice n l r) h =
      let a = inner n _ h.0.1 refl in let b = by_leaves l h.1 in let c = by_leaves r h.2 in
      let d = total_append (λ y. is i y.leaf) (ways l) (ways r) in let f = total_append (leafs i) (below l) (below r) in let g = total_append leaf_at (nodes_of l) (nodes_of r) in omega arith
  by_leaves (sum n x t) h = let a = inner n _ h.0.1 refl in let b = by_leaves t h.1 in let c = total_map (λ y. is i y.leaf) (add_sum x) (ways t) in omega arith
  by_leaves (action n k es x w t) h = let a = leaf_at_is n _ h.0.1 in let b = by_leaves t h.1 in let c = total_append (leafs i) (rest (next t)) (below t) in let d = rests_leafs t in omega arith
  by_leaves (delay n r t) h = let a = leaf_at_is n _ h.0.1 in let b = by_leaves t h.1 in let c = total_append (leafs i) (rest (next t)) (below t) in let d = rests_leafs t in omega arith

times : (k v : ℕ) (xs : List ℕ) → total (λ j. cond (eqb j k) v 0) xs ≡ total (is k) xs * v
unfolding is
times k v [] = omega arith
times k v (x ∷ xs) = go (eqb x k) (times k v xs)
  where
    go : (b : Bool) → total (λ j. cond (eqb j k) v 0) xs ≡ total (is k) xs * v → cond b v 0 + total (λ j. cond (eqb j k) v 0) xs ≡ (cond b 1 0 + total (is k) xs) * v
    go true e = omega arith
    go false e = omega arith

-- a sum over numbers each of which counts once, or for nothing
spread_out : (f : ℕ → ℕ) (b : ℕ) (xs : List ℕ) → AllByRecursion (λ x. x < b) xs → ((k : ℕ) → k < b → (f k ≡ 0) ⊎ (total (is k) xs ≡ 1)) → total f xs ≡ total f (range_with_len 0 b)
spread_out f b xs l h =
    total_all _ _ xs (All-weaker _ _ (λ j i. sym (at_one f j 0 b (omega arith) (omega arith))) xs l)
    ∙ total_swap (λ j k. cond (eqb j k) (f k) 0) xs (range_with_len 0 b)
    ∙ total_all _ _ (range_with_len 0 b) (all_counting _ 0 b b (omega arith) (λ k i. times k (f k) xs ∙ ⊎_elim (nothing k) (single k) (h k i)))
  where
    nothing : (k : ℕ) → f k ≡ 0 → total (is k) xs * f k ≡ f k
    nothing k e = rw e (omega arith)

    single : (k : ℕ) → total (is k) xs ≡ 1 → total (is k) xs * f k ≡ f k
    single k e = rw e (omega arith)

numbers_below : (m : Model) (tree : ℕ → Tree) (t : Tree) → Numbered m tree t → AllByRecursion (λ n. n < m.nodes) (nodes_of t)
numbers_below m tree (call n p es) h = (h.0, tt)
numbers_below m tree (when n e t) h = (h.0.0, numbers_below m tree t h.1)
numbers_below m tree (choice n l r) h = (h.0.0, All-append _ (nodes_of l) (nodes_of r) (numbers_below m tree l h.1) (numbers_below m tree r h.2))
numbers_below m tree (sum n x t) h = (h.0.0, numbers_below m tree t h.1)
numbers_below m tree (action n a es x w t) h = (h.0.0, numbers_below m tree t h.1)
numbers_below m tree (delay n r t) h = (h.0.0, numbers_below m tree t h.1)

-- Each node is a child or a body once, and children are higher.
pub record PlacedOnce (m : Model) (tree : ℕ → Tree) : Type 0 where
  pub higher : (k n : ℕ) → n ≤ k → kids (tree k) n ≡ 0
  pub placed : (n : ℕ) → n < m.nodes → total (λ q. is n (node q.body)) m.processes + total (λ k. kids (tree k) n) (range_with_len 0 m.nodes) ≡ 1

module _ (m : Model) (s : Sound m) (w : PlacedOnce m s.tree) where
  unfoldable pub all_nodes : List ℕ
  all_nodes = flat_map (λ q. nodes_of q.body) m.processes

  pub all_below : AllByRecursion (λ n. n < m.nodes) all_nodes
  unfolding all_nodes
  all_below = all_joined _ (λ q. nodes_of q.body) m.processes (All-weaker _ _ (λ q h. numbers_below m s.tree q.body h) m.processes s.numbered)

  parents : (n : ℕ) → total (is n) all_nodes ≡ total (λ q. is n (node q.body)) m.processes + total (λ k. kids (s.tree k) n) all_nodes
  unfolding all_nodes kids_at
  parents n =
      total_joined (is n) (λ q. nodes_of q.body) m.processes
      ∙ total_all _ _ m.processes (All-weaker _ _ (λ q h. by_parents m s.tree n q.body h) m.processes s.numbered)
      ∙ total_plus (λ q. is n (node q.body)) (λ q. total (kids_at m s.tree n) (nodes_of q.body)) m.processes
      ∙ ap (λ z. total (λ q. is n (node q.body)) m.processes + z) (sym (total_joined (λ k. kids (s.tree k) n) (λ q. nodes_of q.body) m.processes))

  pub occurs : (b n : ℕ) → n < b → n < m.nodes → total (is n) all_nodes ≡ 1
  occurs zero n l i = absurd (omega arith)
  occurs (suc b) n l i =
      let p = parents n in let q = w.placed n i in
      let e : total (λ k. kids (s.tree k) n) all_nodes ≡ total (λ k. kids (s.tree k) n) (range_with_len 0 m.nodes) =
      spread_out (λ k. kids (s.tree k) n) m.nodes all_nodes all_below (λ k j. ⊎_elim (λ (h : k < n). inr (occurs b k (omega arith) j)) (λ h. inl (w.higher k n h)) (cases_lt k n)) in
      omega arith

  -- node i is the leaf of one way of the places if it is an action or a delay, else of none
  pub once_each : (i : ℕ) → i < m.nodes → total (leafs i) (unsorted m) ≡ is_leaf (s.tree i)
  unfolding all_nodes leaf_at
  once_each i l =
      total_joined (leafs i) (λ q. q.body ∷ below q.body) m.processes
      ∙ total_all _ _ m.processes (All-weaker _ _ (λ q h. by_leaves m s.tree i q.body h) m.processes s.numbered)
      ∙ sym (total_joined (leaf_at m s.tree i) (λ q. nodes_of q.body) m.processes)
      ∙ total_all _ (λ k. cond (eqb k i) (is_leaf (s.tree i)) 0) all_nodes (go all_nodes)
      ∙ times i (is_leaf (s.tree i)) all_nodes
      ∙ (let e = occurs (suc i) i (omega arith) l in rw e (omega arith))
    where
      go : (xs : List ℕ) → AllByRecursion (λ k. cond (eqb k i) (is_leaf (s.tree k)) 0 ≡ cond (eqb k i) (is_leaf (s.tree i)) 0) xs
      go [] = tt
      go (k ∷ ks) = (at k (eqb k i) refl, go ks)
        where
          at : (k : ℕ) (b : Bool) → eqb k i ≡ b → cond b (is_leaf (s.tree k)) 0 ≡ cond b (is_leaf (s.tree i)) 0
          at k false e = refl
          at k true e = ap (λ z. is_leaf (s.tree z)) (eqb-true k i e)
