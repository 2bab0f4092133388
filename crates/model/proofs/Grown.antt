-- The tree of a node is the node with the trees of its children. Assumes that children are higher than their parents.
use Rattle.std.proofs.Common.{◌≡◌, ℕ, zero, suc, ◌+◌, ◌-◌, ◌<◌, ◌≤◌, List, [], ◌∷◌, get_or, Some, None, Option, sym, refl, ap, ◌∙◌, subst, ap₂, arith}
use Rattle.std.specs.List.{slice_get}
use Rattle.model_rules.specs.Shapes.{Shape}
use Rattle.model_rules.specs.declared.shape.Shape.TheVariants as shape
use Rattle.model.specs.Flat.{Flat}
use Rattle.model.specs.Made.{Fits}
use Rattle.model.specs.Nodes.{action_arity, arguments_from}
use Rattle.model.specs.Trees.{Tree, call, when, choice, sum, action, delay, planted, grown, tree_of}

pub some_same : {X : Type 0} {x y : X} → ◌≡◌ {A = Option X} (Some x) (Some y) → x ≡ y
some_same e = cc

pub none_some : {X : Type 0} {x : X} → ◌≡◌ {A = Option X} None (Some x) → ⊥
none_some e = cc

module _ (g : Flat) where
  abbrev leaf : Tree
  leaf = call 0 0 []

  planted_same : (n : ℕ) (s : Shape) (f h : ℕ → Tree) → Fits g n s → ((c : ℕ) → n < c → f c ≡ h c) → planted g n s f ≡ planted g n s h
  planted_same n (shape.Call p a) f h fits e = refl
  planted_same n (shape.Condition x c) f h fits e = ap (when n x) (e c fits.0)
  planted_same n (shape.Choice x y) f h fits e = ap₂ (choice n) (e x fits.0.0) (e y fits.1.0)
  planted_same n (shape.Sum v c) f h fits e = ap (sum n v) (e c fits.1.0)
  planted_same n (shape.Action a i v w c) f h fits e = ap (action n a (arguments_from g i (action_arity g a)) v w) (e c fits.3.0)
  planted_same n (shape.Delay r c) f h fits e = ap (delay n r) (e c fits.0)

  -- the trees of the nodes from i on
  from : (i : ℕ) (ks : List Shape) → ((j : ℕ) → i ≤ j → tree_of g j ≡ get_or (grown g i ks) (j - i) leaf)
      → ((n : ℕ) (s : Shape) → slice_get ks n ≡ Some s → Fits g (i + n) s)
      → (n : ℕ) (s : Shape) → slice_get ks n ≡ Some s → tree_of g (i + n) ≡ planted g (i + n) s (tree_of g)
  from i [] same fits n s at = absurd (none_some at)
  from i (k ∷ ks) same fits zero s at =
      let q : i + 0 ≡ i = omega arith in
      let z : i - i ≡ 0 = omega arith in
      let e : k ≡ s = some_same at in
      let here : tree_of g i ≡ planted g i k (λ c. get_or (grown g (suc i) ks) (c - suc i) leaf) = same i (omega arith) ∙ ap (λ n. get_or (grown g i (k ∷ ks)) n leaf) z in
      let fit : Fits g i k = subst (λ n. Fits g n k) q (fits 0 k refl) in
      let there : tree_of g i ≡ planted g i k (tree_of g) = here ∙ planted_same i k (λ c. get_or (grown g (suc i) ks) (c - suc i) leaf) (tree_of g) fit (λ c lt.
      let w : c - i ≡ suc (c - suc i) = omega arith in
      sym (same c (omega arith) ∙ ap (λ n. get_or (grown g i (k ∷ ks)) n leaf) w)) in
      subst (λ n. tree_of g n ≡ planted g n s (tree_of g)) (sym q) (subst (λ t. tree_of g i ≡ planted g i t (tree_of g)) e there)
  from i (k ∷ ks) same fits (suc n) s at =
      let q : suc i + n ≡ i + suc n = omega arith in
      subst (λ j. tree_of g j ≡ planted g j s (tree_of g)) q
      (from (suc i) ks
      (λ j lt. let w : j - i ≡ suc (j - suc i) = omega arith in same j (omega arith) ∙ ap (λ m. get_or (grown g i (k ∷ ks)) m leaf) w)
      (λ m t mt. let w : i + suc m ≡ suc i + m = omega arith in subst (λ j. Fits g j t) w (fits (suc m) t mt))
      n s at)

  pub tree_is : ((n : ℕ) (s : Shape) → slice_get g.nodes n ≡ Some s → Fits g n s) → (n : ℕ) (s : Shape) → slice_get g.nodes n ≡ Some s → tree_of g n ≡ planted g n s (tree_of g)
  tree_is fits n s at =
      let z : 0 + n ≡ n = omega arith in
      subst (λ j. tree_of g j ≡ planted g j s (tree_of g)) z
      (from 0 g.nodes (λ j lt. let w : j - 0 ≡ j = omega arith in sym (ap (λ i. get_or (grown g 0 g.nodes) i leaf) w))
      (λ m t mt. let w : m ≡ 0 + m = omega arith in subst (λ j. Fits g j t) w (fits m t mt)) n s at)
