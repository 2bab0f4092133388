-- Sums one in another.
use Rattle.std.proofs.Common.{◌≡◌, ℕ, zero, suc, ◌+◌, ◌<◌, ◌≤◌, true, ltb, List, [], ◌∷◌, ◌++◌, length, get_or, take, set, sym, refl, ap, ◌∙◌, ap₂, append_assoc, append-nil, arith}
use Rattle.std.proofs.lemmas.List.{length-take-le, get_or-take}
use Rattle.std.proofs.lemmas.Bool.{and_from, lt-ltb}
use Rattle.std.specs.List.{flat_map}
use Rattle.language.specs.Meanings.{Meaning}
use Rattle.valuation.specs.Valuations.{values_of, spread}
use Rattle.ways.specs.Chains.{chain, chain_from, chain_at}
use Rattle.ways.specs.Leaves.{Leaf, leaves}
use Rattle.ways.specs.Trees.{dead, sum, leaf, higher, most_frames}

chain_zero : (i : ℕ) (xs : List ℕ) → chain_from i xs 0 ≡ chain i xs
chain_zero i [] = refl
chain_zero i (x ∷ xs) = refl

chain_in : (i : ℕ) (xs : List ℕ) (n : ℕ) → n < length xs → chain_from i xs n ≡ sum (get_or xs n 0) (chain_from i xs (n + 1))
chain_in i [] n l = absurd (omega arith)
chain_in i (x ∷ xs) zero l = ap (sum x) (sym (chain_zero (suc i) xs))
chain_in i (x ∷ xs) (suc n) l = let q : suc n + 1 ≡ suc (n + 1) = omega arith in chain_in (suc i) xs n (omega arith) ∙ ap (λ m. sum (get_or xs n 0) (chain_from i (x ∷ xs) m)) (sym q)

chain_end : (i : ℕ) (xs : List ℕ) (n : ℕ) → n ≡ length xs → chain_from i xs n ≡ leaf (i + n)
chain_end i [] zero e = let q : i + 0 ≡ i = omega arith in ap leaf (sym q)
chain_end i [] (suc n) e = absurd (omega arith)
chain_end i (x ∷ xs) zero e = absurd (omega arith)
chain_end i (x ∷ xs) (suc n) e = let q : suc i + n ≡ i + suc n = omega arith in chain_end (suc i) xs n (omega arith) ∙ ap leaf q

chain_past : (i : ℕ) (xs : List ℕ) (n : ℕ) → length xs < n → chain_from i xs n ≡ dead
chain_past i [] zero l = absurd (omega arith)
chain_past i [] (suc n) l = refl
chain_past i (x ∷ xs) zero l = absurd (omega arith)
chain_past i (x ∷ xs) (suc n) l = chain_past (suc i) xs n (omega arith)

module _ (xs : List ℕ) (k : ℕ) (room : k ≤ length xs) (n : ℕ) where
  long : length (take k xs) ≡ k
  long = length-take-le k xs room

  pub line_sum : n < k → chain_at (take k xs) n ≡ sum (get_or xs n 0) (chain_at (take k xs) (n + 1))
  line_sum l = chain_in 0 (take k xs) n (omega (arith, long)) ∙ ap (λ x. sum x (chain_at (take k xs) (n + 1))) (get_or-take k xs n 0 l)

  pub line_leaf : n ≡ k → chain_at (take k xs) n ≡ leaf n
  line_leaf e = let q : 0 + n ≡ n = omega arith in chain_end 0 (take k xs) n (omega (arith, long)) ∙ ap leaf q

  pub line_dead : k < n → chain_at (take k xs) n ≡ dead
  line_dead l = chain_past 0 (take k xs) n (omega (arith, long))

  pub line_rises : n < k → n + 1 < most_frames → higher n (n + 1) ≡ true
  line_rises l s = and_from (ltb n (n + 1)) (ltb (n + 1) most_frames) (lt-ltb n (n + 1) (omega arith)) (lt-ltb (n + 1) most_frames s)

joined_append : {X Y : Type 0} (f : X → List Y) (xs ys : List X) → flat_map f (xs ++ ys) ≡ flat_map f xs ++ flat_map f ys
joined_append f [] ys = refl
joined_append {Y = Y} f (x ∷ xs) ys = ap {B = List Y} (λ zs. f x ++ zs) (joined_append f xs ys) ∙ sym (append_assoc (f x) (flat_map f xs) (flat_map f ys))

-- lists that are each joined from others are joined from all of them
pub joined_joined : {X Y : Type 0} (f : X → List Y) (g : ℕ → List X) (h : ℕ → List Y) (ds : List ℕ) → ((d : ℕ) → h d ≡ flat_map f (g d)) → flat_map h ds ≡ flat_map f (flat_map g ds)
joined_joined f g h [] e = refl
joined_joined {Y = Y} f g h (d ∷ ds) e = ap₂ {C = List Y} ◌++◌ (e d) (joined_joined f g h ds e) ∙ sym (joined_append f (g d) (flat_map g ds))

spread_chain : {X : Type 0} (L : Meaning) (sizes : List ℕ) (k : List ℕ → List X) (i : ℕ) (xs : List ℕ) (ρ : List ℕ)
    → spread sizes xs k ρ ≡ flat_map (λ (f : Leaf). k f.values) (leaves L sizes (chain i xs) ρ)
spread_chain L sizes k i [] ρ = sym (append-nil (k ρ))
spread_chain L sizes k i (x ∷ xs) ρ = joined_joined (λ (f : Leaf). k f.values) (λ d. leaves L sizes (chain (suc i) xs) (set ρ x d)) (λ d. spread sizes xs k (set ρ x d)) (values_of sizes x) (λ d. spread_chain L sizes k (suc i) xs (set ρ x d))

-- what is worked out for all values of a chain's variables comes from its leaves
pub spread_leaves : {X : Type 0} (L : Meaning) (sizes : List ℕ) (k : List ℕ → List X) (xs : List ℕ) (ρ : List ℕ)
    → spread sizes xs k ρ ≡ flat_map (λ (f : Leaf). k f.values) (leaves L sizes (chain_at xs 0) ρ)
spread_leaves L sizes k xs ρ = spread_chain L sizes k 0 xs ρ ∙ ap (λ t. flat_map (λ (f : Leaf). k f.values) (leaves L sizes t ρ)) (sym (chain_zero 0 xs))
