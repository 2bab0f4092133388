-- What is in scope at a node of an accepted model is in scope at its children, with what the node binds; at a body, the parameters are.
use Rattle.std.proofs.Common.{◌≡◌, ℕ, zero, suc, ◌+◌, ◌-◌, ◌<◌, ◌≤◌, Bool, true, false, ◌&&◌, ◌||◌, eqb, List, length, get_or, is_ok, Some, sym, refl, ap, ◌∙◌, subst, ap₂, ⊎_elim, arith}
use Rattle.std.specs.List.{slice_get}
use Rattle.std.proofs.lemmas.Bool.{eq-eqb, ne_eqb, eqb-true, or_cases, or_left, or_right, cases_Bool, cases_lt, both_ways, and_left}
use Rattle.model_file.specs.declared.layout.Layout.{Layout}
use Rattle.model_file.specs.Fields.{node_count, process_count, body_of}
use Rattle.model_file.specs.Layouts.{layout_of}
use Rattle.model_rules.specs.Shapes.{Shape}
use Rattle.model_rules.specs.declared.shape.Shape.TheVariants as shape
use Rattle.model_rules.specs.Shapes.{children_of}
use Rattle.model_rules.specs.Sound.{Place, body, child, IsNode, Names, Stands}
use Rattle.model_rules.proofs.Decoded.{shape_is}
use Rattle.model.specs.Accept.{judged}
use Rattle.model.specs.Flat.{Flat, flat, process_of, node_of, or_delay}
use Rattle.model.specs.Nodes.{node_in, value_in}
use Rattle.model.specs.Trees.{planted, tree_of}
use Rattle.model.proofs.Numbered.{numbered_length, numbered_at, numbered_nth, numbered_none}
use Rattle.source.specs.Nodes.{own_binds}
use Rattle.source.proofs.Flats.{sound, all_rise, node_number}
use Rattle.source.proofs.Grown.{tree_is}
use Rattle.fit.specs.Scopes.{in_node, parameter, begins, is_child, handed, starts, scope_at, in_scope}
use Rattle.fit.proofs.Any.{below_none, below_only}

-- whose place it is: 0 for a body, one more than the parent for a child
parent : Place → ℕ
parent (body i) = 0
parent (child m k) = suc m

process_of_lem : Place → ℕ
process_of_lem (body i) = i
process_of_lem (child m k) = 0

module _ (bs : List ℕ) (lawful : is_ok (judged bs) ≡ true) where
  abbrev l : Layout
  l = layout_of bs

  abbrev g : Flat
  g = flat bs

  abbrev K : ℕ
  K = node_count bs (layout_of bs)

  abbrev P : ℕ
  P = process_count bs (layout_of bs)

  -- node n, which is s
  pub record At (n : ℕ) (s : Shape) : Type 0 where
    pub is : IsNode bs l n s
    pub there : node_in g n ≡ value_in g (Some s)
    pub tree : tree_of g n ≡ planted g n s (tree_of g)
    pub names : Names bs l n s

  pub at : (n : ℕ) (s : Shape) → IsNode bs l n s → At n s
  at n s i =
      let e : node_of bs l n ≡ s = ap or_delay (shape_is bs l n s i) in
      let low : n < length g.nodes = omega (arith, i.0, node_number bs lawful) in
      record {
        is = i;
        there = ap (value_in g) (sym (numbered_nth (node_of bs l) K n i.0) ∙ ap Some e);
        tree = tree_is g (all_rise bs lawful) (shape.Delay 0 0) n low ∙ ap (λ k. planted g n k (tree_of g)) (sym (numbered_at (node_of bs l) K n (shape.Delay 0 0) i.0) ∙ e);
        names = (sound bs lawful).names n s i;
      }

  -- a child is higher than its parent, and a node
  pub higher : (n : ℕ) (s : Shape) → Names bs l n s → (k : ℕ) → k < length (children_of s) → (n < get_or (children_of s) k 0) × (get_or (children_of s) k 0 < K)
  higher n (shape.Call p f) h k i = absurd (omega arith)
  higher n (shape.Condition x c) h zero i = h
  higher n (shape.Condition x c) h (suc k) i = absurd (omega arith)
  higher n (shape.Choice x y) h zero i = h.0
  higher n (shape.Choice x y) h (suc zero) i = h.1
  higher n (shape.Choice x y) h (suc (suc k)) i = absurd (omega arith)
  higher n (shape.Sum v c) h zero i = h.1
  higher n (shape.Sum v c) h (suc k) i = absurd (omega arith)
  higher n (shape.Action a f v w c) h zero i = h.3
  higher n (shape.Action a f v w c) h (suc k) i = absurd (omega arith)
  higher n (shape.Delay r c) h zero i = h
  higher n (shape.Delay r c) h (suc k) i = absurd (omega arith)

  child_at : ℕ → ℕ → Bool
  child_at n c = in_node (λ v. is_child v c) (node_in g n)

  kid_of : (s : Shape) (c : ℕ) → in_node (λ v. is_child v c) (value_in g (Some s)) ≡ true → (k : ℕ) × (k < length (children_of s)) × (get_or (children_of s) k 0 ≡ c)
  kid_of (shape.Call p f) c e = absurd (both_ways _ refl e)
  kid_of (shape.Condition x y) c e = (0, omega arith, eqb-true y c e)
  kid_of (shape.Choice x y) c e = ⊎_elim (λ a. (0, omega arith, eqb-true x c a)) (λ a. (1, omega arith, eqb-true y c a)) (or_cases (eqb x c) (eqb y c) e)
  kid_of (shape.Sum v y) c e = (0, omega arith, eqb-true y c e)
  kid_of (shape.Action a f v x y) c e = (0, omega arith, eqb-true y c e)
  kid_of (shape.Delay r y) c e = (0, omega arith, eqb-true y c e)

  is_kid : (s : Shape) (k : ℕ) → k < length (children_of s) → in_node (λ v. is_child v (get_or (children_of s) k 0)) (value_in g (Some s)) ≡ true
  is_kid (shape.Call p f) k i = absurd (omega arith)
  is_kid (shape.Condition x y) zero i = eq-eqb y y refl
  is_kid (shape.Condition x y) (suc k) i = absurd (omega arith)
  is_kid (shape.Choice x y) zero i = or_left (eqb x x) (eqb y x) (eq-eqb x x refl)
  is_kid (shape.Choice x y) (suc zero) i = or_right (eqb x y) (eqb y y) (eq-eqb y y refl)
  is_kid (shape.Choice x y) (suc (suc k)) i = absurd (omega arith)
  is_kid (shape.Sum v y) zero i = eq-eqb y y refl
  is_kid (shape.Sum v y) (suc k) i = absurd (omega arith)
  is_kid (shape.Action a f v x y) zero i = eq-eqb y y refl
  is_kid (shape.Action a f v x y) (suc k) i = absurd (omega arith)
  is_kid (shape.Delay r y) zero i = eq-eqb y y refl
  is_kid (shape.Delay r y) (suc k) i = absurd (omega arith)

  -- a node that has the child c is its parent
  child_stands : (n c : ℕ) → child_at n c ≡ true → (k : ℕ) × Stands bs l c (child n k)
  unfolding child_at
  child_stands n c e = ⊎_elim
      (λ (low : n < K).
      let z = (sound bs lawful).kinds n low in
      let q = kid_of z.0 c (subst (λ o. in_node (λ v. is_child v c) o ≡ true) (at n z.0 z.1).there e) in
      (q.0, (z.0, z.1, q.1, q.2)))
      (λ (high : K ≤ n). absurd (both_ways _ refl (subst (λ o. in_node (λ v. is_child v c) (value_in g o) ≡ true) (sym (numbered_none (node_of bs l) K n high)) e)))
      (cases_lt n K)

  child_higher : (n c : ℕ) → child_at n c ≡ true → n < c
  child_higher n c e =
      let q = child_stands n c e in
      let st = q.1 in
      let h = higher n st.0 ((sound bs lawful).names n st.0 st.1) q.0 st.2 in
      subst (λ j. n < j) st.3 h.0

  one_place : (c : ℕ) → c < K → (x y : Place) → Stands bs l c x → Stands bs l c y → x ≡ y
  one_place c low x y a b = let o = (sound bs lawful).placed c low in o.2 x a ∙ sym (o.2 y b)

  -- so a node has one parent, and a body has none
  not_child : (c : ℕ) → c < K → (x : Place) → Stands bs l c x → (n : ℕ) → (parent x ≡ suc n → ⊥) → child_at n c ≡ false
  unfolding parent
  not_child c low x a n ne = ⊎_elim
      (λ (e : child_at n c ≡ true). let z = child_stands n c e in absurd (ne (ap parent (one_place c low x (child n z.0) a z.1))))
      (λ (e : child_at n c ≡ false). e) (cases_Bool (child_at n c))

  not_body : (c : ℕ) → c < K → (m k : ℕ) → Stands bs l c (child m k) → (p : ℕ) → p < P → body_of bs l p ≡ c → ⊥
  unfolding parent
  not_body c low m k a p i e = let z : 0 ≡ suc m = ap parent (one_place c low (body p) (child m k) (i, e) a) in omega arith

  one_body : (p i : ℕ) → p < P → i < P → body_of bs l i ≡ body_of bs l p → i ≡ p
  unfolding process_of_lem
  one_body p i a b e = ap process_of_lem (one_place (body_of bs l p) ((sound bs lawful).bodies p a) (body i) (body p) (b, e) (a, refl))

  begins_is : (x p c : ℕ) → p < P → begins (slice_get g.processes p) x c ≡ (eqb (body_of bs l p) c && parameter (process_of bs l p) x)
  begins_is x p c low = ap (λ o. begins o x c) (sym (numbered_nth (process_of bs l) P p low))

  process_number : length g.processes ≡ P
  process_number = sym (numbered_length (process_of bs l) P)

  module _ (x : ℕ) where
    stays : (n j k : ℕ) → ((i : ℕ) → n ≤ i → i < n + j → child_at i k ≡ false) → scope_at g x (n + j) k ≡ scope_at g x n k
    unfolding child_at
    stays n zero k h = let q : n + 0 ≡ n = omega arith in ap (λ i. scope_at g x i k) q
    stays n (suc j) k h =
        let q : n + suc j ≡ suc (n + j) = omega arith in
        let m = n + j in
        ap (λ i. scope_at g x i k) q
        ∙ ap (λ t. (t && (in_node (λ v. own_binds v x) (node_in g m) || scope_at g x m m)) || scope_at g x m k) (h m (omega arith) (omega arith))
        ∙ stays n j k (λ i a b. h i a (omega arith))

    -- nodes from n on do not have the child k
    settled : (n k : ℕ) → n ≤ K → ((i : ℕ) → n ≤ i → child_at i k ≡ false) → in_scope g k x ≡ scope_at g x n k
    settled n k le h =
        let q : length g.nodes ≡ n + (K - n) = omega (arith, node_number bs lawful) in
        ap (λ m. scope_at g x m k) q ∙ stays n (K - n) k (λ i a b. h i a)

    own : (n : ℕ) → n < K → in_scope g n x ≡ scope_at g x n n
    own n low = settled n n (omega arith) (λ i le. ⊎_elim
        (λ (e : child_at i n ≡ true). let z = child_higher i n e in absurd (omega arith))
        (λ (e : child_at i n ≡ false). e) (cases_Bool (child_at i n)))

    child_starts : (c : ℕ) → c < K → (m k : ℕ) → Stands bs l c (child m k) → starts g x c ≡ false
    child_starts c low m k a = below_none _ (length g.processes) (λ p i.
        let there : p < P = omega (arith, process_number) in
        begins_is x p c there ∙ and_left (eqb (body_of bs l p) c) (parameter (process_of bs l p) x) (ne_eqb (body_of bs l p) c (not_body c low m k a p there)))

    or_false : (b : Bool) → (b || false) ≡ b
    or_false true = refl
    or_false false = refl

    pub to_child : (n : ℕ) (s : Shape) → IsNode bs l n s → (k : ℕ) → k < length (children_of s)
        → in_scope g (get_or (children_of s) k 0) x ≡ (in_node (λ v. own_binds v x) (value_in g (Some s)) || in_scope g n x)
    unfolding parent child_at
    to_child n s is k i =
        let here = at n s is in
        let c = get_or (children_of s) k 0 in
        let up = higher n s here.names k i in
        let stands : Stands bs l c (child n k) = (s, is, i, refl) in
        let o = value_in g (Some s) in
        let first : scope_at g x n c ≡ false = (let q : n ≡ 0 + n = omega arith in
        ap (λ m. scope_at g x m c) q ∙ stays 0 n c (λ j a b. not_child c up.1 (child n k) stands j (λ z. omega (arith, z, b))) ∙ child_starts c up.1 n k stands) in
        settled (suc n) c (omega arith) (λ j a. not_child c up.1 (child n k) stands j (λ z. omega (arith, z, a)))
        ∙ ap (λ v. handed v x (scope_at g x n n) c (scope_at g x n c)) here.there
        ∙ ap₂ (λ t b. (t && (in_node (λ v. own_binds v x) o || scope_at g x n n)) || b) (is_kid s k i) first
        ∙ or_false (in_node (λ v. own_binds v x) o || scope_at g x n n)
        ∙ ap (λ b. in_node (λ v. own_binds v x) o || b) (sym (own n is.0))

    pub at_body : (p : ℕ) → p < P → in_scope g (body_of bs l p) x ≡ parameter (process_of bs l p) x
    unfolding parent
    at_body p low =
        let b = body_of bs l p in
        let there = (sound bs lawful).bodies p low in
        settled 0 b (omega arith) (λ j a. not_child b there (body p) (low, refl) j (λ z. omega (arith, z)))
        ∙ below_only _ (length g.processes) p (omega (arith, process_number)) (λ i a ne.
        let i-low : i < P = omega (arith, process_number) in
        begins_is x i b i-low ∙ and_left (eqb (body_of bs l i) b) (parameter (process_of bs l i) x) (ne_eqb (body_of bs l i) b (λ e. ne (one_body p i low i-low e))))
        ∙ begins_is x p b low ∙ ap (λ t. t && parameter (process_of bs l p) x) (eq-eqb b b refl)
