-- Tests over what is left of a list. Assumes nothing.
use Rattle.std.proofs.Common.{◌≡◌, ℕ, zero, suc, ◌+◌, ◌*◌, ◌<◌, ◌≤◌, Bool, true, false, cond, not, leb, min, List, [], ◌∷◌, length, get_or, drop, Some, None, Ok, Err, Option, Result, sym, refl, ap, ◌∙◌, ⊎_elim, mul_assoc, le-mul_of_pos_right, arith}
use Rattle.std.proofs.lemmas.List.{at_drop_more, at_drop_all}
use Rattle.std.proofs.lemmas.Bool.{cases_lt, lt-leb, le-leb}
use Rattle.std.specs.List.{position_from}
use Rattle.linear.specs.Faults.{at}
use Rattle.linear.specs.Laws.{product}
use Rattle.linear.specs.Reading.{fails_from}
use Rattle.linear.specs.declared.fault.Group.{Group}
use Rattle.linear.specs.declared.fault.Place.{Place}
use Rattle.linear.specs.declared.fault.LinearFault.{LinearFault}

-- the largest number that a product is cut to
abbrev top : ℕ
top = 4294967295

-- a product that was cut on the way is cut to the same
cut_more : (a b : ℕ) → min (a * b) top ≡ min (min a top * b) top
cut_more a zero = omega arith
cut_more a (suc b) =
    let one : (n : ℕ) → n ≤ n * suc b = λ n. le-mul_of_pos_right n (omega arith) in
    ⊎_elim (λ (lt : a < top). let e : a ≡ min a top = omega arith in ap (λ n. min (n * suc b) top) e) (λ le. let e : min a top ≡ top = omega arith in let p = one a in let q = one top in let r : min (top * suc b) top ≡ top = omega arith in let s : min (a * suc b) top ≡ top = omega arith in s ∙ sym r ∙ ap (λ n. min (n * suc b) top) (sym e)) (cases_lt a top)

pub product_more : (sizes xs : List ℕ) (i t : ℕ) → i < length xs → min (t * product sizes (drop i xs)) top ≡ min (min (t * get_or sizes (get_or xs i 0) 1) top * product sizes (drop (i + 1) xs)) top
product_more sizes xs i t lt =
    at_drop_more (λ ys. min (t * product sizes ys) top) xs i 0 lt
    ∙ ap (λ n. min n top) (sym (mul_assoc t (get_or sizes (get_or xs i 0) 1) (product sizes (drop (i + 1) xs))))
    ∙ cut_more (t * get_or sizes (get_or xs i 0) 1) (product sizes (drop (i + 1) xs))

-- whether a product is small shows of the cut one
small_is : (p t : ℕ) → min p top ≡ t → leb t 65536 ≡ leb p 65536
small_is p t e =
    ⊎_elim (λ (lt : 65536 < t). lt-leb t 65536 lt ∙ sym (lt-leb p 65536 (omega arith))) (λ le. le-leb t 65536 le ∙ sym (le-leb p 65536 (omega arith))) (cases_lt 65536 t)

pub product_end : (sizes xs : List ℕ) (i t : ℕ) → length xs ≤ i → t ≤ top → min (product sizes xs) top ≡ min (t * product sizes (drop i xs)) top → leb t 65536 ≡ leb (product sizes xs) 65536
product_end sizes xs i t le few e =
    let end : min (t * product sizes (drop i xs)) top ≡ min (t * 1) top = at_drop_all (λ ys. min (t * product sizes ys) top) xs i le in
    small_is (product sizes xs) t (e ∙ end ∙ (omega arith))

module _ {X : Type 0} (test : X → Bool) (fault : Place → LinearFault) (g : Group) where
  abbrev refused : Option ℕ → Result (Unit {0}) LinearFault
  refused (Some k) = Err (fault (at g k))
  refused None = Ok tt

  one_more : (b : Bool) (k : ℕ) (r : Result (Unit {0}) LinearFault) (o : Option ℕ) → r ≡ refused o → cond b r (Err (fault (at g k))) ≡ refused (cond (not b) (Some k) o)
  one_more true k r o e = e
  one_more false k r o e = refl

  -- the first failure by its position
  fails_at : (k : ℕ) (xs : List X) → fails_from test fault g k xs ≡ refused (position_from (λ x. not (test x)) k xs)
  fails_at k [] = refl
  fails_at k (x ∷ xs) = one_more (test x) k (fails_from test fault g (k + 1) xs) (position_from (λ y. not (test y)) (k + 1) xs) (fails_at (k + 1) xs)

  pub fails_some : (xs : List X) (k : ℕ) → Some k ≡ position_from (λ x. not (test x)) 0 xs → Err (fault (at g k)) ≡ fails_from test fault g 0 xs
  fails_some xs k is = ap refused is ∙ sym (fails_at 0 xs)

  pub fails_none : (xs : List X) → None ≡ position_from (λ x. not (test x)) 0 xs → Ok tt ≡ fails_from test fault g 0 xs
  fails_none xs is = ap refused is ∙ sym (fails_at 0 xs)
