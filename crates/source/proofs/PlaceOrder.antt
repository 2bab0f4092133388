-- A place's program counter is one more than the number of places with lower nodes.
use Rattle.std.proofs.Common.{◌≡◌, ℕ, zero, suc, ◌+◌, ◌<◌, ◌≤◌, Bool, true, false, cond, not, eqb, ltb, List, [], ◌∷◌, ◌++◌, length, filter, sym, refl, ap, ◌∙◌, subst, ap₂, ⊎_elim, arith}
use mathlib.Core.Path.{fun_ext}
use Rattle.std.specs.List.{range_with_len, flat_map, prefix_len, AllByRecursion}
use Rattle.std.proofs.ByRecursion.{All-weaker, kept_by_passes}
use Rattle.std.proofs.lemmas.Bool.{ne_eqb, eqb-true, cases_eq}
use Rattle.model.specs.Trees.{Tree}
use Rattle.source.specs.Models.{Model, node}
use Rattle.source.specs.Places.{unsorted, counter}
use Rattle.source.proofs.Totals.{total, total_zero, total_plus}

module _ {X : Type 0} (key : X → ℕ) (n : ℕ) where
  abbrev other : X → Bool
  other x = not (eqb (key x) n)

  -- all of the front passes
  through : (xs ys : List X) → AllByRecursion (λ x. other x ≡ true) xs → prefix_len other (xs ++ ys) ≡ length xs + prefix_len other ys
  through [] ys a = omega arith
  through (x ∷ xs) ys a = let ih = through xs ys a.1 in rw a.0 (omega arith)

  counts : (j : ℕ) → X → ℕ
  counts j x = cond (eqb (key x) j) 1 0

  length_kept : (j : ℕ) (xs : List X) → length (filter (λ x. eqb (key x) j) xs) ≡ total (counts j) xs
  unfolding counts
  length_kept j [] = refl
  length_kept j (x ∷ xs) = go (eqb (key x) j) (length_kept j xs)
    where
      go : (b : Bool) → length (filter (λ x. eqb (key x) j) xs) ≡ total (λ x. cond (eqb (key x) j) 1 0) xs
          → length (cond b (x ∷ filter (λ x. eqb (key x) j) xs) (filter (λ x. eqb (key x) j) xs)) ≡ cond b 1 0 + total (λ x. cond (eqb (key x) j) 1 0) xs
      go true e = omega arith
      go false e = omega arith

  -- the first with key n stops
  stops : (xs ys : List X) → 0 < total (counts n) xs → prefix_len other (filter (λ x. eqb (key x) n) xs ++ ys) ≡ 0
  unfolding counts
  stops [] ys h = absurd (omega arith)
  stops (x ∷ xs) ys h = go (eqb (key x) n) refl (λ k. stops xs ys k)
    where
      go : (b : Bool) → eqb (key x) n ≡ b → (0 < total (λ y. cond (eqb (key y) n) 1 0) xs → prefix_len other (filter (λ y. eqb (key y) n) xs ++ ys) ≡ 0)
          → prefix_len other (cond b (x ∷ filter (λ y. eqb (key y) n) xs) (filter (λ y. eqb (key y) n) xs) ++ ys) ≡ 0
      go true e r = rw e refl
      go false e r = let k : 0 < cond false 1 0 + total (λ y. cond (eqb (key y) n) 1 0) xs = rw e at h in r (omega arith)

  abbrev in_from : ℕ → ℕ → List X → List X
  in_from a k xs = flat_map (λ j. filter (λ x. eqb (key x) j) xs) (range_with_len a k)

  -- how many have a key from a on, below n
  between : ℕ → X → ℕ
  between a x = cond (ltb (key x) a) 0 (cond (ltb (key x) n) 1 0)

  one_more : (a : ℕ) (x : X) → a < n → counts a x + between (a + 1) x ≡ between a x
  unfolding counts between
  one_more a x l = grind arith

  none_left : (x : X) → between n x ≡ 0
  unfolding between
  none_left x = grind arith

  all_of : (x : X) → between 0 x ≡ cond (ltb (key x) n) 1 0
  unfolding between
  all_of x = grind arith

  -- the first with key n in the sorted list stands behind those with lower keys
  stands_at : (k a : ℕ) (xs : List X) → 0 < total (counts n) xs → a ≤ n → n < a + k → prefix_len other (in_from a k xs) ≡ total (between a) xs
  stands_at zero a xs h l u = absurd (omega arith)
  stands_at (suc k) a xs h l u = ⊎_elim same (λ ne. differ ne (stands_at k (a + 1) xs h (omega (arith, ne)) (omega arith))) (cases_eq a n)
    where
      same : a ≡ n → prefix_len other (in_from a (suc k) xs) ≡ total (between a) xs
      same e =
          subst (λ i. prefix_len other (in_from i (suc k) xs) ≡ total (between i) xs) (sym e)
          (stops xs (in_from (n + 1) k xs) h ∙ sym (total_zero xs) ∙ ap (λ (f : X → ℕ). total f xs) (sym (fun_ext none_left)))

      differ : (a ≡ n → ⊥) → prefix_len other (in_from (a + 1) k xs) ≡ total (between (a + 1)) xs → prefix_len other (in_from a (suc k) xs) ≡ total (between a) xs
      differ ne ih =
          through (filter (λ x. eqb (key x) a) xs) (in_from (a + 1) k xs) (All-weaker _ _ (λ x e. let q = eqb-true (key x) a e in ap not (ne_eqb (key x) n (λ z. ne (sym q ∙ z)))) _ (kept_by_passes (λ x. eqb (key x) a) xs))
          ∙ ap₂ ◌+◌ (length_kept a xs) ih
          ∙ sym (total_plus (counts a) (between (a + 1)) xs)
          ∙ ap (λ (f : X → ℕ). total f xs) (fun_ext (λ x. one_more a x (omega (arith, ne))))

pub counter_is : (m : Model) (n : ℕ) → n < m.nodes → 0 < total (λ t. cond (eqb (node t) n) 1 0) (unsorted m) → counter m n ≡ suc (total (λ t. cond (ltb (node t) n) 1 0) (unsorted m))
unfolding counts
counter_is m n l h = ap suc (stands_at node n m.nodes 0 (unsorted m) h (omega arith) (omega arith) ∙ ap (λ (f : Tree → ℕ). total f (unsorted m)) (fun_ext (all_of node n)))
