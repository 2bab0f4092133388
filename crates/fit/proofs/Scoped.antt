-- A language fits the trees of an accepted model just where no node is at fault.
use Rattle.std.proofs.Common.{◌≡◌, ℕ, zero, suc, ◌+◌, ◌<◌, ◌≤◌, true, false, ◌||◌, List, [], ◌∷◌, map, length, get_or, is_ok, Some, sym, subst, arith}
use mathlib.Core.Path.{fun_ext}
use Rattle.std.specs.List.{range_with_len, AllByRecursion}
use Rattle.std.proofs.ByRecursion.{All-map, All-get_or, All-from_get_or}
use Rattle.language.specs.Meanings.{Meaning, Lawful}
use Rattle.model_file.specs.declared.layout.Layout.{Layout}
use Rattle.model_file.specs.Fields.{node_count, process_count, body_of}
use Rattle.model_file.specs.Layouts.{layout_of}
use Rattle.model_rules.specs.Shapes.{Shape}
use Rattle.model_rules.specs.declared.shape.Shape.TheVariants as shape
use Rattle.model_rules.specs.Shapes.{children_of}
use Rattle.model_rules.specs.Sound.{Place, body, child, IsNode, Stands}
use Rattle.model.specs.declared.node.Process as header
use Rattle.model.specs.Accept.{judged}
use Rattle.model.specs.Flat.{Flat, flat, process_of}
use Rattle.model.specs.Nodes.{value_in}
use Rattle.model.specs.Trees.{Tree, planted, tree_of}
use Rattle.model.proofs.Numbered.{numbered_nth}
use Rattle.source.specs.Models.{param, headed, model_of}
use Rattle.source.specs.Nodes.{own_binds}
use Rattle.source.specs.Sound.{Scope, InScope, Fits}
use Rattle.source.proofs.Enumerate.{all_counting}
use Rattle.source.proofs.Flats.{sound}
use Rattle.fit.specs.Fitting.{beyond_at, strays_at, stray_at}
use Rattle.fit.specs.Scopes.{in_node, in_scope}
use Rattle.fit.specs.Uses.{uses_beyond, strays}
use Rattle.fit.proofs.Any.{below_none, below_at}
use Rattle.fit.proofs.Handing.{at, higher, to_child, at_body}
use Rattle.fit.proofs.Used.{root_to, root_from}
use Rattle.fit.proofs.Words.{RootIn, all_nth}

module _ (L : Meaning) (g : Flat) where
  -- no fault at node n
  abbrev pub Fine : ℕ → Type 0
  Fine n = (beyond_at L.count g n ≡ false) × (stray_at L g n ≡ false)

  -- a child of the node s, S being the scope at s
  abbrev KidIn : Shape → Scope → (ℕ → Tree) → ℕ → Type 0
  KidIn s S T c = InScope L (λ x. in_node (λ v. own_binds v x) (value_in g (Some s)) || S x) (T c)

  split : (n : ℕ) (s : Shape) (T : ℕ → Tree) (S : Scope) → InScope L S (planted g n s T) → RootIn L S (planted g n s T) × AllByRecursion (KidIn s S T) (children_of s)
  split n (shape.Call p f) T S h = (h, tt)
  split n (shape.Condition e c) T S h = (h.0, (h.1, tt))
  split n (shape.Choice x y) T S h = (tt, (h.0, (h.1, tt)))
  split n (shape.Sum v c) T S h = (tt, (h, tt))
  split n (shape.Action a f v w c) T S h = ((h.0, h.1), (h.2, tt))
  split n (shape.Delay r c) T S h = (h.0, (h.1, tt))

  join : (n : ℕ) (s : Shape) (T : ℕ → Tree) (S : Scope) → RootIn L S (planted g n s T) → AllByRecursion (KidIn s S T) (children_of s) → InScope L S (planted g n s T)
  join n (shape.Call p f) T S h k = h
  join n (shape.Condition e c) T S h k = (h, k.0)
  join n (shape.Choice x y) T S h k = (k.0, k.1.0)
  join n (shape.Sum v c) T S h k = k.0
  join n (shape.Action a f v w c) T S h k = (h.0, h.1, k.0)
  join n (shape.Delay r c) T S h k = (h, k.0)

module _ (L : Meaning) (law : Lawful L) (bs : List ℕ) (lawful : is_ok (judged bs) ≡ true) where
  abbrev l : Layout
  l = layout_of bs

  abbrev g : Flat
  g = flat bs

  abbrev K : ℕ
  K = node_count bs (layout_of bs)

  abbrev P : ℕ
  P = process_count bs (layout_of bs)

  -- the tree of a node, under what is in scope there
  abbrev Scoped : ℕ → Type 0
  Scoped n = InScope L (λ x. in_scope g n x) (tree_of g n)

  kid_scope : (n : ℕ) (s : Shape) → IsNode bs l n s → (k : ℕ) → k < length (children_of s)
      → ◌≡◌ {A = Scope} (λ x. in_scope g (get_or (children_of s) k 0) x) (λ x. in_node (λ v. own_binds v x) (value_in g (Some s)) || in_scope g n x)
  kid_scope n s is k i = fun_ext (λ x. to_child bs lawful x n s is k i)

  body_scope : (p : ℕ) → p < P → ◌≡◌ {A = Scope} (λ x. in_scope g (body_of bs l p) x) (param (headed g (process_of bs l p)))
  body_scope p low = fun_ext (λ x. at_body bs lawful x p low)

  -- downwards, from the highest node
  scoped : ((n : ℕ) → n < K → Fine L g n) → (b n : ℕ) → K ≤ n + b → n < K → Scoped n
  scoped fine zero n h low = absurd (omega arith)
  scoped fine (suc b) n h low =
      let z = (sound bs lawful).kinds n low in
      let s = z.0 in
      let here = at bs lawful n s z.1 in
      let f = fine n low in
      let root = root_to L law g n (tree_of g) (λ x. in_scope g n x) s (subst (λ o. in_node (uses_beyond L.count) o ≡ false) here.there f.0)
      (λ x i. subst (λ o. in_node (strays L x (in_scope g n x)) o ≡ false) here.there (below_at (strays_at L g n) 16 x f.1 i)) in
      subst (InScope L (λ x. in_scope g n x)) (sym here.tree)
      (join L g n s (tree_of g) (λ x. in_scope g n x) root
      (All-from_get_or _ (children_of s) 0 (λ k i.
      let up = higher bs lawful n s here.names k i in
      subst (λ S. InScope L S (tree_of g (get_or (children_of s) k 0))) (kid_scope n s z.1 k i) (scoped fine b (get_or (children_of s) k 0) (omega (arith, up.0)) up.1))))

  pub fine_fits : ((n : ℕ) → n < K → Fine L g n) → Fits L (model_of g)
  fine_fits fine =
      All-map _ (headed g) g.processes (All-map _ (process_of bs l) (range_with_len 0 P)
      (all_counting _ 0 P P (omega arith) (λ p low.
      subst (λ S. InScope L S (tree_of g (body_of bs l p))) (body_scope p low) (scoped fine K (body_of bs l p) (omega arith) ((sound bs lawful).bodies p low)))))

  all_body : Fits L (model_of g) → (p : ℕ) → p < P → InScope L (param (headed g (process_of bs l p))) (tree_of g (body_of bs l p))
  all_body f p low =
      all_nth (λ (q : header.Process). InScope L (param (headed g q)) (tree_of g q.body)) g.processes p (process_of bs l p) (un_map _ (headed g) g.processes f)
      (sym (numbered_nth (process_of bs l) P p low))
    where
      un_map : {X Y : Type 0} (Q : Y → Type 0) (h : X → Y) (xs : List X) → AllByRecursion Q (map h xs) → AllByRecursion (λ x. Q (h x)) xs
      un_map Q h [] a = tt
      un_map Q h (x ∷ xs) a = (a.0, un_map Q h xs a.1)

  -- upwards, from the bodies
  placed : Fits L (model_of g) → (b n : ℕ) → n < b → n < K → Scoped n
  placed f zero n h low = absurd (omega arith)
  placed f (suc b) n h low = let o = (sound bs lawful).placed n low in go o.0 o.1 (λ m less i. placed f b m (omega arith) i)
    where
      go : (x : Place) → Stands bs l n x → ((m : ℕ) → m < n → m < K → Scoped m) → Scoped n
      go (body p) (i, e) up_to_lem = subst Scoped e (subst (λ S. InScope L S (tree_of g (body_of bs l p))) (sym (body_scope p i)) (all_body f p i))
      go (child m k) (s, is, i, e) up_to_lem =
          let here = at bs lawful m s is in
          let up = higher bs lawful m s here.names k i in
          let under : Scoped m = up_to_lem m (omega (arith, up.0, e)) is.0 in
          let kids = (split L g m s (tree_of g) (λ x. in_scope g m x) (subst (InScope L (λ x. in_scope g m x)) here.tree under)).1 in
          subst Scoped e (subst (λ S. InScope L S (tree_of g (get_or (children_of s) k 0))) (sym (kid_scope m s is k i)) (All-get_or _ (children_of s) k 0 i kids))

  pub fits_fine : Fits L (model_of g) → (n : ℕ) → n < K → Fine L g n
  fits_fine f n low =
      let z = (sound bs lawful).kinds n low in
      let s = z.0 in
      let here = at bs lawful n s z.1 in
      let root = (split L g n s (tree_of g) (λ x. in_scope g n x) (subst (InScope L (λ x. in_scope g n x)) here.tree (placed f (suc n) n (omega arith) low))).0 in
      let q = root_from L law g n (tree_of g) (λ x. in_scope g n x) s root in (
        subst (λ o. in_node (uses_beyond L.count) o ≡ false) (sym here.there) q.0,
        below_none (strays_at L g n) 16 (λ x i. subst (λ o. in_node (strays L x (in_scope g n x)) o ≡ false) (sym here.there) (q.1 x)),
      )
