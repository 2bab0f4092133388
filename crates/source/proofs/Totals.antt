-- Sums over lists.
use Rattle.std.proofs.Common.{◌≡◌, ℕ, zero, suc, ◌+◌, ◌<◌, ◌≤◌, Bool, true, false, cond, not, eqb, List, [], ◌∷◌, ◌++◌, map, sum_by, filter, sym, refl, ap, ◌∙◌, arith}
use mathlib.Core.Path.{fun_ext}
use Rattle.std.specs.List.{range_with_len, flat_map, AllByRecursion}
use Rattle.std.proofs.lemmas.List.Sums.{sum_by-cons}
use Rattle.std.proofs.lemmas.Bool.{eq-eqb, ne_eqb}
use Rattle.source.specs.Places.{in_order}

abbrev pub total : {X : Type 0} → (X → ℕ) → List X → ℕ
total f [] = 0
total f (x ∷ xs) = f x + total f xs

pub sum_by_total : {X : Type 0} (f : X → ℕ) (xs : List X) → sum_by f xs ≡ total f xs
sum_by_total f [] = refl
sum_by_total f (x ∷ xs) = sum_by-cons f x xs ∙ ap (λ n. f x + n) (sum_by_total f xs)

pub total_append : {X : Type 0} (f : X → ℕ) (xs ys : List X) → total f (xs ++ ys) ≡ total f xs + total f ys
total_append f [] ys = omega arith
total_append f (x ∷ xs) ys = let ih = total_append f xs ys in omega arith

pub total_joined : {X Y : Type 0} (f : Y → ℕ) (g : X → List Y) (xs : List X) → total f (flat_map g xs) ≡ total (λ x. total f (g x)) xs
total_joined f g [] = refl
total_joined f g (x ∷ xs) = total_append f (g x) (flat_map g xs) ∙ ap (λ n. total f (g x) + n) (total_joined f g xs)

pub total_map : {X Y : Type 0} (f : Y → ℕ) (g : X → Y) (xs : List X) → total f (map g xs) ≡ total (λ x. f (g x)) xs
total_map f g [] = refl
total_map f g (x ∷ xs) = ap (λ n. f (g x) + n) (total_map f g xs)

pub total_zero : {X : Type 0} (xs : List X) → total (λ (x : X). 0) xs ≡ 0
total_zero [] = refl
total_zero (x ∷ xs) = let ih = total_zero xs in omega arith

pub total_plus : {X : Type 0} (f g : X → ℕ) (xs : List X) → total (λ x. f x + g x) xs ≡ total f xs + total g xs
total_plus f g [] = refl
total_plus f g (x ∷ xs) = let ih = total_plus f g xs in omega arith

pub total_swap : {X Y : Type 0} (h : X → Y → ℕ) (xs : List X) (ys : List Y) → total (λ x. total (h x) ys) xs ≡ total (λ y. total (λ x. h x y) xs) ys
total_swap h [] ys = sym (total_zero ys)
total_swap h (x ∷ xs) ys = ap (λ n. total (h x) ys + n) (total_swap h xs ys) ∙ sym (total_plus (h x) (λ y. total (λ z. h z y) xs) ys)

pub total_all : {X : Type 0} (f g : X → ℕ) (xs : List X) → AllByRecursion (λ x. f x ≡ g x) xs → total f xs ≡ total g xs
total_all f g [] a = refl
total_all f g (x ∷ xs) a = let ih = total_all f g xs a.1 in cc a.0

pub total_kept : {X : Type 0} (f : X → ℕ) (p : X → Bool) (xs : List X) → total f (filter p xs) ≡ total (λ x. cond (p x) (f x) 0) xs
total_kept f p [] = refl
total_kept f p (x ∷ xs) = go (p x) (total_kept f p xs)
  where
    go : (b : Bool) → total f (filter p xs) ≡ total (λ y. cond (p y) (f y) 0) xs
        → total f (cond b (x ∷ filter p xs) (filter p xs)) ≡ cond b (f x) 0 + total (λ y. cond (p y) (f y) 0) xs
    go true e = ap (λ n. f x + n) e
    go false e = omega arith

pub total_cond : {X : Type 0} (f : X → ℕ) (b : Bool) (xs : List X) → total f (cond b xs []) ≡ cond b (total f xs) 0
total_cond f true xs = refl
total_cond f false xs = refl

pub total_cond_out : {X : Type 0} (b : Bool) (g : X → ℕ) (xs : List X) → total (λ x. cond b (g x) 0) xs ≡ cond b (total g xs) 0
total_cond_out true g xs = refl
total_cond_out false g xs = total_zero xs

pub total_split : {X : Type 0} (g : X → ℕ) (p : X → Bool) (xs : List X) → total g (filter p xs) + total g (filter (λ x. not (p x)) xs) ≡ total g xs
total_split g p [] = refl
total_split g p (x ∷ xs) = go (p x) (total_split g p xs)
  where
    go : (b : Bool) → total g (filter p xs) + total g (filter (λ y. not (p y)) xs) ≡ total g xs
        → total g (cond b (x ∷ filter p xs) (filter p xs)) + total g (cond (not b) (x ∷ filter (λ y. not (p y)) xs) (filter (λ y. not (p y)) xs)) ≡ g x + total g xs
    go true e = omega arith
    go false e = omega arith

nowhere : (v j a k : ℕ) → j < a → total (λ n. cond (eqb j n) v 0) (range_with_len a k) ≡ 0
nowhere v j a zero l = refl
nowhere v j a (suc k) l = let ih = nowhere v j (a + 1) k (omega arith) in let e = ne_eqb j a (λ q. omega (arith, q)) in rw e (omega arith)

pub once : (v j a k : ℕ) → a ≤ j → j < a + k → total (λ n. cond (eqb j n) v 0) (range_with_len a k) ≡ v
once v j a zero l h = absurd (omega arith)
once v j a (suc k) l h = grind (arith, nowhere, once v j (a + 1) k, eq-eqb, ne_eqb)

pub total_in_order : {X : Type 0} (f : X → ℕ) (key : X → ℕ) (k : ℕ) (xs : List X) → AllByRecursion (λ x. key x < k) xs → total f (in_order key k xs) ≡ total f xs
total_in_order f key k xs a =
    total_joined f (λ n. filter (λ x. eqb (key x) n) xs) (range_with_len 0 k)
    ∙ ap (λ h. total h (range_with_len 0 k)) (fun_ext (λ n. total_kept f (λ x. eqb (key x) n) xs))
    ∙ total_swap (λ n x. cond (eqb (key x) n) (f x) 0) (range_with_len 0 k) xs
    ∙ total_all _ f xs (each xs a)
  where
    each : (ys : List _) → AllByRecursion (λ x. key x < k) ys → AllByRecursion (λ x. total (λ n. cond (eqb (key x) n) (f x) 0) (range_with_len 0 k) ≡ f x) ys
    each [] b = tt
    each (y ∷ ys) b = (once (f y) (key y) 0 k (omega arith) (omega (arith, b.0)), each ys b.1)
