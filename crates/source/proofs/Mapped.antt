-- Lists made by a function.
use Rattle.std.proofs.Common.{◌≡◌, ℕ, zero, suc, ◌+◌, ◌<◌, List, [], ◌∷◌, ◌++◌, map, length, get_or, refl, ap, ◌∙◌, ap₂, arith}
use Rattle.std.specs.List.{range_with_len, flat_map}
use Rattle.std.proofs.lemmas.List.{map-append}
use Rattle.std.proofs.lemmas.List.FromFn.{get_or-map-range_with_len}
use Rattle.valuation.specs.Valuations.{each}
use Rattle.source.specs.Models.{Model}

counted_same : {X : Type 0} (f g : ℕ → X) (a k n : ℕ) → a + k ≡ n → ((x : ℕ) → x < n → f x ≡ g x) → map f (range_with_len a k) ≡ map g (range_with_len a k)
counted_same f g a zero n e h = refl
counted_same f g a (suc k) n e h = ap₂ {C = List _} ◌∷◌ (h a (omega arith)) (counted_same f g (a + 1) k n (omega arith) h)

pub each_same : {X : Type 0} (m : Model) (f g : ℕ → X) → ((x : ℕ) → x < length m.sizes → f x ≡ g x) → each m.sizes f ≡ each m.sizes g
each_same m f g h = counted_same f g 0 (length m.sizes) (length m.sizes) (omega arith) h

pub get_or_each : {X : Type 0} (m : Model) (f : ℕ → X) (x : ℕ) (d : X) → x < length m.sizes → get_or (each m.sizes f) x d ≡ f x
get_or_each m f x d l = get_or-map-range_with_len f 0 (length m.sizes) x x d l (omega arith)

pub map_map : {X Y Z : Type 0} (f : Y → Z) (g : X → Y) (xs : List X) → map f (map g xs) ≡ map (λ x. f (g x)) xs
map_map f g [] = refl
map_map f g (x ∷ xs) = ap {B = List _} (λ r. f (g x) ∷ r) (map_map f g xs)

pub map_joined : {X Y Z : Type 0} (f : Y → Z) (g : X → List Y) (xs : List X) → map f (flat_map g xs) ≡ flat_map (λ x. map f (g x)) xs
map_joined f g [] = refl
map_joined f g (x ∷ xs) = map-append f (g x) (flat_map g xs) ∙ ap {B = List _} (λ r. map f (g x) ++ r) (map_joined f g xs)
