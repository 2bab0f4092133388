-- The ways down from a node, by its kind. Assumes nothing.
use Rattle.std.proofs.Common.{◌≡◌, ℕ, zero, suc, ◌-◌, true, ◌&&◌, List, Option, sym, refl, ap, ◌∙◌, arith}
use Rattle.model_file.specs.declared.layout.Layout.{Layout}
use Rattle.model_rules.specs.Shapes.{Shape, shape_at}
use Rattle.model_rules.specs.Ways.{ways, ways_of, limits}

module _ (bs : List ℕ) (l : Layout) where
  ways_on : (k n s c p : ℕ) → (k ≡ 0 → ⊥) → limits s c p ≡ true
      → ways bs l k n s c p ≡ ways_of bs (ways bs l (k - 1)) (shape_at bs l n) s c p
  ways_on zero n s c p h e = absurd (h refl)
  ways_on (suc k) n s c p h e =
      let j : suc k - 1 ≡ k = omega arith in
      ap (λ b. b && ways_of bs (ways bs l k) (shape_at bs l n) s c p) e
      ∙ ap (λ i. ways_of bs (ways bs l i) (shape_at bs l n) s c p) (sym j)

  -- one step on, at a node of the kind o
  pub ways_at : (k n s c p : ℕ) → (k ≡ 0 → ⊥) → limits s c p ≡ true → (o : Option Shape) → o ≡ shape_at bs l n
      → ways bs l k n s c p ≡ ways_of bs (ways bs l (k - 1)) o s c p
  ways_at k n s c p h e o f = ways_on k n s c p h e ∙ sym (ap (λ z. ways_of bs (ways bs l (k - 1)) z s c p) f)
