-- What the tree of a frame gives, and the work left in it, as a sum goes on.
use Rattle.std.proofs.Common.{◌≡◌, ℕ, zero, suc, ◌+◌, ◌-◌, ◌<◌, ◌≤◌, List, [], ◌++◌, get_or, set, sym, refl, ap, ◌∙◌, arith}
use Rattle.std.specs.List.{range_with_len, flat_map}
use Rattle.language.specs.Meanings.{Meaning}
use Rattle.ways.specs.Trees.{Tree, dead, when, choice, sum, leaf}
use Rattle.ways.specs.Leaves.{leaves}
use Rattle.ways.specs.Stacks.{leaves_from, rounds, work, work_from}

-- trees
module _ (L : Meaning) (sizes : List ℕ) where
  pub from_zero : (t : Tree) (ρ : List ℕ) → leaves_from L sizes t 0 ρ ≡ leaves L sizes t ρ
  from_zero dead ρ = refl
  from_zero (when e t) ρ = refl
  from_zero (choice l r) ρ = refl
  from_zero (sum x t) ρ = let q : get_or sizes x 0 - 0 ≡ get_or sizes x 0 = omega arith in rw q refl
  from_zero (leaf n) ρ = refl

  pub sum_on : (x : ℕ) (t : Tree) (v : ℕ) (ρ : List ℕ) → v < get_or sizes x 0 → leaves_from L sizes (sum x t) v ρ ≡ leaves_from L sizes t 0 (set ρ x v) ++ leaves_from L sizes (sum x t) (v + 1) ρ
  sum_on x t v ρ l =
      let q : get_or sizes x 0 - v ≡ suc (get_or sizes x 0 - (v + 1)) = omega arith in
      ap (λ k. flat_map (λ d. leaves L sizes t (set ρ x d)) (range_with_len v k)) q
      ∙ ap (λ a. a ++ leaves_from L sizes (sum x t) (v + 1) ρ) (sym (from_zero t (set ρ x v)))

  pub sum_end : (x : ℕ) (t : Tree) (v : ℕ) (ρ : List ℕ) → get_or sizes x 0 ≤ v → leaves_from L sizes (sum x t) v ρ ≡ []
  sum_end x t v ρ l = let q : get_or sizes x 0 - v ≡ 0 = omega arith in ap (λ k. flat_map (λ d. leaves L sizes t (set ρ x d)) (range_with_len v k)) q

module _ (sizes : List ℕ) where
  rounds_pos : (k w : ℕ) → 0 < rounds k w
  rounds_pos zero w = omega arith
  rounds_pos (suc k) w = omega arith

  pub work_pos : (t : Tree) (v : ℕ) → 0 < work_from sizes t v
  work_pos dead v = omega arith
  work_pos (when e t) v = omega arith
  work_pos (choice l r) v = omega arith
  work_pos (sum x t) v = rounds_pos (get_or sizes x 0 - v) (work sizes t)
  work_pos (leaf n) v = omega arith

  pub work_zero : (t : Tree) → work_from sizes t 0 ≡ work sizes t
  work_zero dead = refl
  work_zero (when e t) = refl
  work_zero (choice l r) = refl
  work_zero (sum x t) = let q : get_or sizes x 0 - 0 ≡ get_or sizes x 0 = omega arith in rw q refl
  work_zero (leaf n) = refl

  pub work_on : (x : ℕ) (t : Tree) (v : ℕ) → v < get_or sizes x 0 → work_from sizes (sum x t) v ≡ suc (work_from sizes t 0 + work_from sizes (sum x t) (v + 1))
  work_on x t v l =
      let q : get_or sizes x 0 - v ≡ suc (get_or sizes x 0 - (v + 1)) = omega arith in
      ap (λ k. rounds k (work sizes t)) q
      ∙ ap (λ a. suc (a + work_from sizes (sum x t) (v + 1))) (sym (work_zero t))
