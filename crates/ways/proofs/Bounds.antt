-- How many leaves there are at most.
use Rattle.std.proofs.Common.{◌≡◌, ℕ, zero, suc, ◌+◌, ◌*◌, ◌≤◌, Bool, true, false, cond, List, [], ◌++◌, length, get_or, set, suc-mul, arith, length-append}
use Rattle.std.specs.List.{range_with_len, flat_map}
use Rattle.language.specs.Meanings.{Meaning}
use Rattle.valuation.specs.Valuations.{holds}
use Rattle.ways.specs.Trees.{Tree, dead, when, choice, sum, leaf}
use Rattle.ways.specs.Leaves.{Leaf, leaves, most}

joined_few : (f : ℕ → List Leaf) (m a k : ℕ) → ((d : ℕ) → length (f d) ≤ m) → length (flat_map f (range_with_len a k)) ≤ k * m
joined_few f m a zero h = omega arith
joined_few f m a (suc k) h =
    let ih = joined_few f m (a + 1) k h in
    let one = h a in
    let e : length (f a ++ flat_map f (range_with_len (a + 1) k)) ≡ length (f a) + length (flat_map f (range_with_len (a + 1) k)) = length-append (f a) (flat_map f (range_with_len (a + 1) k)) in
    omega (arith, suc-mul k m)

pub leaves_few : (L : Meaning) (sizes : List ℕ) (t : Tree) (ρ : List ℕ) → length (leaves L sizes t ρ) ≤ most sizes t
leaves_few L sizes dead ρ = omega arith
leaves_few L sizes (when e t) ρ = go (holds L e ρ) (leaves_few L sizes t ρ)
  where
    go : (b : Bool) → length (leaves L sizes t ρ) ≤ most sizes t → length (cond b (leaves L sizes t ρ) []) ≤ most sizes t
    go true h = h
    go false h = omega arith
leaves_few L sizes (choice l r) ρ =
    let a = leaves_few L sizes l ρ in
    let b = leaves_few L sizes r ρ in
    omega (arith, length-append (leaves L sizes l ρ) (leaves L sizes r ρ))
leaves_few L sizes (sum x t) ρ = joined_few (λ d. leaves L sizes t (set ρ x d)) (most sizes t) 0 (get_or sizes x 0) (λ d. leaves_few L sizes t (set ρ x d))
leaves_few L sizes (leaf n) ρ = omega arith
