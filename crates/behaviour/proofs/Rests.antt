-- The places of an accepted model are its resting places.
use Rattle.std.proofs.Common.{◌≡◌, ℕ, zero, suc, ◌+◌, ◌<◌, ◌≤◌, List, ◌∷◌, get_or, sym, refl, ap, ◌∙◌, subst, inl, inr, arith}
use Rattle.std.specs.List.{range_with_len, AllByRecursion}
use Rattle.std.proofs.ByRecursion.{All-map, All-append}
use Rattle.model_file.specs.declared.layout.Layout.{Layout}
use Rattle.model_file.specs.Fields.{node_count, process_count, body_of}
use Rattle.model_file.specs.Layouts.{layout_of}
use Rattle.model_rules.specs.Shapes.{Shape}
use Rattle.model_rules.specs.declared.shape.Shape.TheVariants as shape
use Rattle.model_rules.specs.Sound as rules
use Rattle.model_rules.specs.Sound.{IsNode, LeadsTo, Resting}
use Rattle.model.specs.Flat.{Flat, flat, process_of}
use Rattle.model.specs.Trees as trees
use Rattle.model.specs.Trees.{Tree, planted, tree_of}
use Rattle.model.specs.WellFormed.{WellFormed}
use Rattle.source.specs.Models.{next, node, headed, model_of}
use Rattle.source.specs.Places.{below, rest, unsorted, places}
use Rattle.source.proofs.Enumerate.{all_counting}
use Rattle.behaviour.proofs.Accepted.{at_node_lem, number_of_lem}
use Rattle.behaviour.proofs.Kept.{all_joined, all_in_order}

module _ (bs : List ℕ) (w : WellFormed bs) where
  abbrev g : Flat
  g = flat bs

  abbrev l : Layout
  l = layout_of bs

  abbrev K : ℕ
  K = node_count bs (layout_of bs)

  abbrev Rests : Tree → Type 0
  Rests t = Resting bs l (node t)

  at_rest : (t : Tree) → Rests t → AllByRecursion Rests (rest (next t))
  at_rest (trees.call n p es) h = tt
  at_rest (trees.when n e t) h = (h, tt)
  at_rest (trees.choice n x y) h = (h, tt)
  at_rest (trees.sum n x t) h = (h, tt)
  at_rest (trees.action n a es x e t) h = (h, tt)
  at_rest (trees.delay n r t) h = (h, tt)

  -- the child of an action or a delay
  led_to : (n c : ℕ) (s : Shape) → IsNode bs l n s → LeadsTo s c → c < K → AllByRecursion Rests (rest (next (tree_of g c)))
  led_to n c s is leads low =
      let z = w.sound.kinds c low in
      go z.0 z.1 (at_node_lem bs w c z.0 z.1).tree
    where
      rests : ((rules.IsCall bs l c) → ⊥) → AllByRecursion Rests (rest (next (tree_of g c)))
      rests never = at_rest (tree_of g c) (subst (Resting bs l) (sym (number_of_lem bs w c low)) (inr ((n, s, is, leads), never)))

      go : (k : Shape) → IsNode bs l c k → tree_of g c ≡ planted g c k (tree_of g) → AllByRecursion Rests (rest (next (tree_of g c)))
      go (shape.Call p f) i e = subst (λ t. AllByRecursion Rests (rest (next t))) (sym e) tt
      go (shape.Condition x y) i e = rests (λ q. let z : ◌≡◌ {A = ℕ} 1 2 = ap (λ xs. get_or xs 0 0) (sym q.2.1 ∙ i.1) in omega arith)
      go (shape.Choice x y) i e = rests (λ q. let z : ◌≡◌ {A = ℕ} 1 3 = ap (λ xs. get_or xs 0 0) (sym q.2.1 ∙ i.1) in omega arith)
      go (shape.Sum v y) i e = rests (λ q. let z : ◌≡◌ {A = ℕ} 1 4 = ap (λ xs. get_or xs 0 0) (sym q.2.1 ∙ i.1) in omega arith)
      go (shape.Action a f v x y) i e = rests (λ q. let z : ◌≡◌ {A = ℕ} 1 5 = ap (λ xs. get_or xs 0 0) (sym q.2.1 ∙ i.1) in omega arith)
      go (shape.Delay r y) i e = rests (λ q. let z : ◌≡◌ {A = ℕ} 1 6 = ap (λ xs. get_or xs 0 0) (sym q.2.1 ∙ i.1) in omega arith)

  below_rests : (b n : ℕ) → K ≤ n + b → n < K → AllByRecursion Rests (below (tree_of g n))
  below_rests zero n h low = absurd (omega arith)
  below_rests (suc b) n h low =
      let z = w.sound.kinds n low in
      let a = at_node_lem bs w n z.0 z.1 in
      subst (λ t. AllByRecursion Rests (below t)) (sym a.tree) (go z.0 z.1 a.names (λ c i j. below_rests b c (omega arith) j))
    where
      go : (s : Shape) → IsNode bs l n s → rules.Names bs l n s → ((c : ℕ) → n < c → c < K → AllByRecursion Rests (below (tree_of g c))) → AllByRecursion Rests (below (planted g n s (tree_of g)))
      go (shape.Call p f) is ns ih = tt
      go (shape.Condition x c) is ns ih = ih c ns.0 ns.1
      go (shape.Choice x y) is ns ih = All-append _ (below (tree_of g x)) (below (tree_of g y)) (ih x ns.0.0 ns.0.1) (ih y ns.1.0 ns.1.1)
      go (shape.Sum v c) is ns ih = ih c ns.1.0 ns.1.1
      go (shape.Action a f v x c) is ns ih = All-append _ (rest (next (tree_of g c))) (below (tree_of g c)) (led_to n c (shape.Action a f v x c) is refl ns.3.1) (ih c ns.3.0 ns.3.1)
      go (shape.Delay r c) is ns ih = All-append _ (rest (next (tree_of g c))) (below (tree_of g c)) (led_to n c (shape.Delay r c) is refl ns.1) (ih c ns.0 ns.1)

  pub places_rest : AllByRecursion Rests (places (model_of g))
  places_rest =
      all_in_order _ node (model_of g).nodes (unsorted (model_of g)) (all_joined _ (λ q. q.body ∷ below q.body) (model_of g).processes
      (All-map _ (headed g) g.processes (All-map _ (process_of bs l) (range_with_len 0 (process_count bs l))
      (all_counting _ 0 (process_count bs l) (process_count bs l) (omega arith) (λ p low.
      let b = w.sound.bodies p low in
      (subst (Resting bs l) (sym (number_of_lem bs w (body_of bs l p) b)) (inl (p, (low, refl))), below_rests K (body_of bs l p) (omega arith) b))))))
