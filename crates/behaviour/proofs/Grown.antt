-- A flat model whose children are higher nodes gives a sound model. Assumes nothing.
use Rattle.std.proofs.Common.{◌≡◌, ℕ, suc, ◌+◌, ◌-◌, ◌<◌, ◌≤◌, true, List, [], ◌∷◌, length, get_or, sym, refl, ap, ◌∙◌, subst, ap₂, ⊎_elim, arith}
use lib.ListN.{length-map}
use Rattle.std.specs.List.{AllByRecursion}
use Rattle.std.proofs.ByRecursion.{All-weaker, All-map}
use Rattle.std.proofs.lemmas.List.{get_or-map}
use Rattle.std.proofs.lemmas.Bool.{cases_eq}
use Rattle.model_rules.specs.Shapes.{Shape}
use Rattle.model_rules.specs.declared.shape.Shape.TheVariants as shape
use Rattle.model.specs.declared.node.Process as header
use Rattle.model.specs.Flat.{Flat}
use Rattle.model.specs.Nodes as nodes
use Rattle.model.specs.Nodes.{call_arity, action_arity, arguments_from}
use Rattle.model.specs.Trees.{Tree, call, when, choice, sum, action, delay, planted, grown, tree_of}
use Rattle.source.specs.Models.{process, no_process, param, headed, model_of}
use Rattle.source.specs.Sound.{Sound, Numbered, Calls, Owned}

-- a child of node n is a node, and higher; a call names a process and has its arguments
abbrev pub Kid : Flat → ℕ → ℕ → Type 0
Kid g n c = (n < c) × (c < length g.nodes)

abbrev pub Kids : Flat → ℕ → Shape → Type 0
Kids g n (shape.Call p f) = (p < length g.processes) × (length (arguments_from g f (call_arity g p)) ≡ call_arity g p)
Kids g n (shape.Condition e c) = Kid g n c
Kids g n (shape.Choice x y) = Kid g n x × Kid g n y
Kids g n (shape.Sum v c) = Kid g n c
Kids g n (shape.Action a f v w c) = Kid g n c
Kids g n (shape.Delay r c) = Kid g n c

-- node n binds the variables that it owns
abbrev pub Binds : (ℕ → ℕ) → ℕ → Shape → Type 0
Binds owner n (shape.Call p f) = Unit {0}
Binds owner n (shape.Condition e c) = Unit {0}
Binds owner n (shape.Choice x y) = Unit {0}
Binds owner n (shape.Sum v c) = owner v ≡ suc n
Binds owner n (shape.Action a f v w c) = owner v ≡ suc n
Binds owner n (shape.Delay r c) = Unit {0}

abbrev pub KidsFrom : Flat → ℕ → List Shape → Type 0
KidsFrom g i [] = Unit {0}
KidsFrom g i (k ∷ ks) = Kids g i k × KidsFrom g (suc i) ks

abbrev pub BindsFrom : (ℕ → ℕ) → ℕ → List Shape → Type 0
BindsFrom owner i [] = Unit {0}
BindsFrom owner i (k ∷ ks) = Binds owner i k × BindsFrom owner (suc i) ks

pub record WellMade (g : Flat) : Type 0 where
  pub owner : ℕ → ℕ
  pub binds : BindsFrom owner 0 g.nodes
  pub own_params : AllByRecursion (λ q. (x : ℕ) → param (headed g q) x ≡ true → owner x ≡ 0) g.processes
  pub kids : KidsFrom g 0 g.nodes
  pub bodies : AllByRecursion (λ q. q.body < length g.nodes) g.processes
  pub starts : g.start < length g.processes
  pub sizes : (x : ℕ) → x < length g.sizes → 0 < get_or g.sizes x 0
  pub values : (x : ℕ) → x < length g.sizes → param (process (model_of g) g.start) x ≡ true → get_or g.values (x - (process (model_of g) g.start).first) 0 < get_or g.sizes x 0

module _ (g : Flat) (owner : ℕ → ℕ) where
  abbrev pub T : ℕ → Tree
  T = tree_of g

  -- what is known of the tree at node n
  abbrev pub Fine : ℕ → Tree → Type 0
  Fine n t = Numbered (model_of g) T t × Calls (model_of g) t × Owned owner n t

  params_are : (p : ℕ) → p < length g.processes → (process (model_of g) p).params ≡ call_arity g p
  params_are p l = ap (λ q. q.params) (get_or-map (headed g) g.processes p nodes.no_process no_process l)

  pub raise : (k n : ℕ) (t : Tree) → k ≤ n → Owned owner n t → Owned owner k t
  raise k n (call i p es) l o = tt
  raise k n (when i e t) l o = (omega (arith, o.0), o.1)
  raise k n (choice i a b) l o = (omega (arith, o.0), o.1, o.2)
  raise k n (sum i x t) l o = (omega (arith, o.0), o.1, o.2)
  raise k n (action i a es x w t) l o = (omega (arith, o.0), o.1, o.2)
  raise k n (delay i r t) l o = (omega (arith, o.0), o.1)

  planted_same : (n : ℕ) (k : Shape) (f h : ℕ → Tree) → Kids g n k → ((c : ℕ) → Kid g n c → f c ≡ h c) → planted g n k f ≡ planted g n k h
  planted_same n (shape.Call p y) f h j e = refl
  planted_same n (shape.Condition x c) f h j e = ap (when n x) (e c j)
  planted_same n (shape.Choice u v) f h j e = ap₂ (choice n) (e u j.0) (e v j.1)
  planted_same n (shape.Sum x c) f h j e = ap (sum n x) (e c j)
  planted_same n (shape.Action a y x w c) f h j e = ap (action n a (arguments_from g y (action_arity g a)) x w) (e c j)
  planted_same n (shape.Delay r c) f h j e = ap (delay n r) (e c j)

  -- a node whose children are the trees of their numbers
  made : (n : ℕ) (k : Shape) (kid : ℕ → Tree) → n < length g.nodes → T n ≡ planted g n k kid → ((c : ℕ) → Kid g n c → (kid c ≡ T c) × Fine c (T c)) → Kids g n k → Binds owner n k → Fine n (T n)
  made n k kid l e h ks bs = subst (Fine n) (sym e) (go k ks bs e)
    where
      good : (c : ℕ) → Kid g n c → Fine (suc n) (kid c)
      good c i = let f = subst (Fine c) (sym (h c i).0) (h c i).1 in (f.0, f.1, raise (suc n) c (kid c) i.0 f.2)

      go : (k : Shape) → Kids g n k → Binds owner n k → T n ≡ planted g n k kid → Fine n (planted g n k kid)
      go (shape.Call p y) j b q = ((l, q), (subst (λ z. p < z) (sym (length-map g.processes _)) j.0, j.1 ∙ sym (params_are p j.0)), tt)
      go (shape.Condition x c) j b q = let f = good c j in (((l, q), f.0), f.1, (omega arith, f.2))
      go (shape.Choice u v) j b q = let f = good u j.0 in let r = good v j.1 in (((l, q), f.0, r.0), (f.1, r.1), (omega arith, f.2, r.2))
      go (shape.Sum x c) j b q = let f = good c j in (((l, q), f.0), f.1, (omega arith, b, f.2))
      go (shape.Action a y x w c) j b q = let f = good c j in (((l, q), f.0), f.1, (omega arith, b, f.2))
      go (shape.Delay r c) j b q = let f = good c j in (((l, q), f.0), f.1, (omega arith, f.2))

  pub fine : (i : ℕ) (ks : List Shape) → i + length ks ≡ length g.nodes → ((j : ℕ) → i ≤ j → T j ≡ get_or (grown g i ks) (j - i) (call 0 0 [])) → KidsFrom g i ks → BindsFrom owner i ks
      → (j : ℕ) → i ≤ j → j < length g.nodes → Fine j (T j)
  fine i [] e h a b j lo hi = absurd (omega arith)
  fine i (k ∷ ks) e h a b j lo hi = step (fine (suc i) ks (omega arith) shift a.1 b.1)
    where
      shift : (c : ℕ) → suc i ≤ c → T c ≡ get_or (grown g (suc i) ks) (c - suc i) (call 0 0 [])
      shift c l = let q : c - i ≡ suc (c - suc i) = omega arith in h c (omega arith) ∙ ap (λ n. get_or (grown g i (k ∷ ks)) n (call 0 0 [])) q

      step : ((c : ℕ) → suc i ≤ c → c < length g.nodes → Fine c (T c)) → Fine j (T j)
      step rest = ⊎_elim first (λ n. rest j (omega (arith, n)) hi) (cases_eq j i)
        where
          first : j ≡ i → Fine j (T j)
          first q =
              subst (λ n. Fine n (T n)) (sym q)
              (made i k (λ c. get_or (grown g (suc i) ks) (c - suc i) (call 0 0 [])) (omega arith)
              (let z : i - i ≡ 0 = omega arith in h i (omega arith) ∙ ap (λ n. get_or (grown g i (k ∷ ks)) n (call 0 0 [])) z)
              (λ c y. (sym (shift c y.0), rest c y.0 y.1)) a.0 b.0)

unfoldable pub sound : (g : Flat) → WellMade g → Sound (model_of g)
sound g w = record {
  tree = tree_of g;
  numbered = All-map (λ q. Numbered (model_of g) (tree_of g) q.body) (headed g) g.processes (All-weaker _ _ (λ q z. z.0) g.processes bodies);
  called = All-map (λ q. Calls (model_of g) q.body) (headed g) g.processes (All-weaker _ _ (λ q z. z.1) g.processes bodies);
  starts = subst (λ n. g.start < n) (sym (length-map g.processes _)) w.starts;
  sizes = w.sizes;
  values = w.values;
  owner = w.owner;
  owned = All-map (λ q. ((x : ℕ) → param q x ≡ true → w.owner x ≡ 0) × Owned w.owner 0 q.body) (headed g) g.processes (both g.processes w.own_params bodies);
}
  where
    bodies : AllByRecursion (λ q. Fine g w.owner q.body (tree_of g q.body)) g.processes
    bodies = All-weaker _ _ (λ q l. fine g w.owner 0 g.nodes (omega arith) (λ j z. let e : j - 0 ≡ j = omega arith in sym (ap (λ n. get_or (grown g 0 g.nodes) n (call 0 0 [])) e)) w.kids w.binds q.body (omega arith) l) g.processes w.bodies

    both : (qs : List header.Process) → AllByRecursion (λ q. (x : ℕ) → param (headed g q) x ≡ true → w.owner x ≡ 0) qs → AllByRecursion (λ q. Fine g w.owner q.body (tree_of g q.body)) qs
        → AllByRecursion (λ q. ((x : ℕ) → param (headed g q) x ≡ true → w.owner x ≡ 0) × Owned w.owner 0 (tree_of g q.body)) qs
    both [] a b = tt
    both (q ∷ qs) a b = ((a.0, raise g w.owner 0 q.body (tree_of g q.body) (omega arith) b.0.2), both qs a.1 b.1)

-- A node's tree, one level down: what code over the flat nodes unfolds by.
pub tree_is : (g : Flat) → KidsFrom g 0 g.nodes → (d : Shape) (n : ℕ) → n < length g.nodes → tree_of g n ≡ planted g n (get_or g.nodes n d) (tree_of g)
tree_is g ks d n l = go 0 g.nodes (λ j z. let e : j - 0 ≡ j = omega arith in sym (ap (λ i. get_or (grown g 0 g.nodes) i (call 0 0 [])) e)) (λ j z. let e : j - 0 ≡ j = omega arith in sym (ap (λ i. get_or g.nodes i d) e)) ks n (omega arith) (omega arith)
  where
    go : (i : ℕ) (ks : List Shape) → ((j : ℕ) → i ≤ j → tree_of g j ≡ get_or (grown g i ks) (j - i) (call 0 0 [])) → ((j : ℕ) → i ≤ j → get_or g.nodes j d ≡ get_or ks (j - i) d) → KidsFrom g i ks
        → (j : ℕ) → i ≤ j → j < i + length ks → tree_of g j ≡ planted g j (get_or g.nodes j d) (tree_of g)
    go i [] h p a j lo hi = absurd (omega arith)
    go i (k ∷ ks) h p a j lo hi = ⊎_elim first (λ n. go (suc i) ks shift (λ c l. let q : c - i ≡ suc (c - suc i) = omega arith in p c (omega arith) ∙ ap (λ n. get_or (k ∷ ks) n d) q) a.1 j (omega (arith, n)) (omega arith)) (cases_eq j i)
      where
        shift : (c : ℕ) → suc i ≤ c → tree_of g c ≡ get_or (grown g (suc i) ks) (c - suc i) (call 0 0 [])
        shift c l = let q : c - i ≡ suc (c - suc i) = omega arith in h c (omega arith) ∙ ap (λ n. get_or (grown g i (k ∷ ks)) n (call 0 0 [])) q

        first : j ≡ i → tree_of g j ≡ planted g j (get_or g.nodes j d) (tree_of g)
        first q =
            let z : i - i ≡ 0 = omega arith in
            let e : get_or g.nodes i d ≡ k = p i (omega arith) ∙ ap (λ n. get_or (k ∷ ks) n d) z in
            rw q (rw e (h i (omega arith) ∙ ap (λ n. get_or (grown g i (k ∷ ks)) n (call 0 0 [])) z ∙ planted_same g (λ x. 0) i k _ _ a.0 (λ c y. sym (shift c y.0))))
