-- A node's tree, one level down, where children are higher.
use Rattle.std.proofs.Common.{◌≡◌, ℕ, suc, ◌+◌, ◌-◌, ◌<◌, ◌≤◌, List, [], ◌∷◌, length, get_or, sym, refl, ap, ◌∙◌, ap₂, ⊎_elim, arith}
use Rattle.std.proofs.lemmas.List.{get_or_past}
use Rattle.std.proofs.lemmas.Bool.{cases_eq}
use Rattle.model_rules.specs.Shapes.{Shape}
use Rattle.model_rules.specs.declared.shape.Shape.TheVariants.{Call, Condition, Choice, Sum, Action, Delay}
use Rattle.model.specs.Flat.{Flat}
use Rattle.model.specs.Nodes.{arguments_from, action_arity}
use Rattle.model.specs.Trees.{Tree, call, when, choice, sum, action, delay, planted, grown, tree_of}
use Rattle.source.specs.Nodes.{Rises, RisesFrom}

module _ (g : Flat) where
  pub planted_same : (n : ℕ) (k : Shape) (f h : ℕ → Tree) → Rises n k → ((c : ℕ) → n < c → f c ≡ h c) → planted g n k f ≡ planted g n k h
  planted_same n (Call p i) f h j e = refl
  planted_same n (Condition x c) f h j e = ap (when n x) (e c j)
  planted_same n (Choice u v) f h j e = ap₂ (choice n) (e u j.0) (e v j.1)
  planted_same n (Sum x c) f h j e = ap (sum n x) (e c j)
  planted_same n (Action a i x w c) f h j e = ap (action n a (arguments_from g i (action_arity g a)) x w) (e c j)
  planted_same n (Delay r c) f h j e = ap (delay n r) (e c j)

  pub tree_is : RisesFrom 0 g.nodes → (d : Shape) (n : ℕ) → n < length g.nodes → tree_of g n ≡ planted g n (get_or g.nodes n d) (tree_of g)
  tree_is ks d n l = go 0 g.nodes (λ j z. let e : j - 0 ≡ j = omega arith in sym (ap (λ i. get_or (grown g 0 g.nodes) i (call 0 0 [])) e)) (λ j z. let e : j - 0 ≡ j = omega arith in sym (ap (λ i. get_or g.nodes i d) e)) ks n (omega arith) (omega arith)
    where
      go : (i : ℕ) (ks : List Shape) → ((j : ℕ) → i ≤ j → tree_of g j ≡ get_or (grown g i ks) (j - i) (call 0 0 [])) → ((j : ℕ) → i ≤ j → get_or g.nodes j d ≡ get_or ks (j - i) d) → RisesFrom i ks
          → (j : ℕ) → i ≤ j → j < i + length ks → tree_of g j ≡ planted g j (get_or g.nodes j d) (tree_of g)
      go i [] h p a j lo hi = absurd (omega arith)
      go i (k ∷ ks) h p a j lo hi = ⊎_elim first (λ n. go (suc i) ks shift (λ c l. let q : c - i ≡ suc (c - suc i) = omega arith in p c (omega arith) ∙ ap (λ n. get_or (k ∷ ks) n d) q) a.1 j (omega (arith, n)) (omega arith)) (cases_eq j i)
        where
          shift : (c : ℕ) → suc i ≤ c → tree_of g c ≡ get_or (grown g (suc i) ks) (c - suc i) (call 0 0 [])
          shift c l = let q : c - i ≡ suc (c - suc i) = omega arith in h c (omega arith) ∙ ap (λ n. get_or (grown g i (k ∷ ks)) n (call 0 0 [])) q

          first : j ≡ i → tree_of g j ≡ planted g j (get_or g.nodes j d) (tree_of g)
          first q =
              let z : i - i ≡ 0 = omega arith in
              let e : get_or g.nodes i d ≡ k = p i (omega arith) ∙ ap (λ n. get_or (k ∷ ks) n d) z in
              rw q (rw e (h i (omega arith) ∙ ap (λ n. get_or (grown g i (k ∷ ks)) n (call 0 0 [])) z ∙ planted_same i k _ _ a.0 (λ c y. sym (shift c y))))

  grown_length : (i : ℕ) (ks : List Shape) → length (grown g i ks) ≡ length ks
  grown_length i [] = refl
  grown_length i (k ∷ ks) = ap suc (grown_length (suc i) ks)

  -- beyond the nodes there is no tree
  pub tree_past : (n : ℕ) → length g.nodes ≤ n → tree_of g n ≡ call 0 0 []
  tree_past n l = get_or_past (grown g 0 g.nodes) n (call 0 0 []) (omega (arith, grown_length 0 g.nodes))
