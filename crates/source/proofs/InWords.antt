-- The rules in their own words and the rules by functions derive the same.
use Rattle.std.proofs.Common.{◌≡◌, ℕ, zero, suc, ◌+◌, ◌-◌, ◌<◌, ◌≤◌, min, Bool, true, false, cond, not, eqb, ltb, leb, List, [], ◌∷◌, map, length, get_or, set, Some, None, sum_by, Option, sym, refl, ap, ◌∙◌, subst, ap₂, ⊎_elim, arith}
use Rattle.std.specs.List.{range_with_len, slice_get, AllZip}
use Rattle.std.proofs.ByRecursion.{All-weaker}
use Rattle.std.proofs.lemmas.List.FromFn.{length-map-range_with_len}
use Rattle.std.proofs.lemmas.Bool.{ne_eqb, cases_lt, leb-true, ltb-true, le-leb, lt-ltb, and_parts, and_from, both_ways}
use Rattle.language.specs.Meanings.{Meaning}
use Rattle.model.specs.Trees.{Tree, call, when, choice, sum, action, delay}
use Rattle.valuation.specs.Valuations.{each, cut, holds}
use Rattle.valuation.specs.Transitions.{Outcome, Transition, move, wait}
use Rattle.valuation.specs.Doings.{outcomes}
use Rattle.source.specs.Models.{Process, Model, Term, node, next, process, param}
use Rattle.source.specs.Free.{free}
use Rattle.source.specs.Terms.{term, given, target, start_value, start_term}
use Rattle.source.specs.Rules.{Rule, derived, Derives, Enumerated}
use Rattle.source.specs.Published.{CutTo, AtParams, IsTerm, Itself, Target, Derivation, ListsAll, implies, choice_l, choice_r, nsum, psum, mstep}
use Rattle.source.proofs.Totals.{total, sum_by_total, total_map}
use Rattle.source.proofs.Mapped.{get_or_each}
use Rattle.source.proofs.Enumerate.{enumerates}
use Rattle.source.proofs.Ascends.{ascends}
use Rattle.source.specs.Rules as R

-- lists by their places
by_places : (f : ℕ → ℕ) (a k : ℕ) (xs : List ℕ) → length xs ≡ k → ((i : ℕ) → i < k → get_or xs i 0 ≡ f (a + i)) → xs ≡ map f (range_with_len a k)
by_places f a zero [] e h = refl
by_places f a zero (x ∷ xs) e h = absurd (omega arith)
by_places f a (suc k) [] e h = absurd (omega arith)
by_places f a (suc k) (x ∷ xs) e h =
    ap₂ {C = List ℕ} ◌∷◌ (h 0 (omega arith) ∙ ap f (let q : a + 0 ≡ a = omega arith in q))
    (by_places f (a + 1) k xs (omega arith) (λ i l. h (suc i) (omega arith) ∙ ap f (let q : a + suc i ≡ a + 1 + i = omega arith in q)))

by_elements : {X : Type 0} (f : ℕ → X) (a k : ℕ) (xs : List X) → length xs ≡ k → ((i : ℕ) (x : X) → slice_get xs i ≡ Some x → x ≡ f (a + i)) → xs ≡ map f (range_with_len a k)
by_elements f a zero [] e h = refl
by_elements f a zero (x ∷ xs) e h = absurd (omega arith)
by_elements f a (suc k) [] e h = absurd (omega arith)
by_elements f a (suc k) (x ∷ xs) e h =
    ap₂ {C = List _} ◌∷◌ (h 0 x refl ∙ ap f (let q : a + 0 ≡ a = omega arith in q))
    (by_elements f (a + 1) k xs (omega arith) (λ i y l. h (suc i) y l ∙ ap f (let q : a + suc i ≡ a + 1 + i = omega arith in q)))

is_none : {X : Type 0} → Option X → Type 0
is_none None = Unit {0}
is_none (Some x) = ⊥

none_some : {X : Type 0} (x : X) → None ≡ Some x → ⊥
unfolding is_none
none_some x e = subst is_none e tt

at_counting : {X : Type 0} (f : ℕ → X) (a k i : ℕ) (x : X) → slice_get (map f (range_with_len a k)) i ≡ Some x → x ≡ f (a + i)
at_counting f a zero i x e = absurd (none_some x e)
at_counting f a (suc k) zero x e = let q : f a ≡ x = cc in sym q ∙ ap f (let q : a ≡ a + 0 = omega arith in q)
at_counting f a (suc k) (suc i) x e = at_counting f (a + 1) k i x e ∙ ap f (let q : a + 1 + i ≡ a + suc i = omega arith in q)

mapped : (f : ℕ → ℕ) (es vs : List ℕ) → AllZip (λ e v. v ≡ f e) es vs → vs ≡ map f es
mapped f [] [] a = refl
mapped f [] (v ∷ vs) a = absurd a
mapped f (e ∷ es) [] a = absurd a
mapped f (e ∷ es) (v ∷ vs) a = ap₂ {C = List ℕ} ◌∷◌ a.0 (mapped f es vs a.1)

mapped_each : (f : ℕ → ℕ) (es : List ℕ) → AllZip (λ e v. v ≡ f e) es (map f es)
mapped_each f [] = tt
mapped_each f (e ∷ es) = (refl, mapped_each f es)

some_positive : (g : ℕ → ℕ) (a k : ℕ) → 0 < total g (range_with_len a k) → (d : ℕ) × (a ≤ d) × (d < a + k) × (0 < g d)
some_positive g a zero h = absurd (omega arith)
some_positive g a (suc k) h = ⊎_elim (λ z. (a, omega arith, omega arith, z)) (λ z. let r = some_positive g (a + 1) k (omega arith) in (r.0, omega arith, omega arith, r.3)) (cases_lt 0 (g a))

one_positive : (g : ℕ → ℕ) (a k d : ℕ) → a ≤ d → d < a + k → 0 < g d → 0 < total g (range_with_len a k)
one_positive g a zero d l u p = absurd (omega arith)
one_positive g a (suc k) d l u p = ⊎_elim (λ z. let ih = one_positive g (a + 1) k d (omega arith) (omega arith) p in omega arith) (λ z. let q : a ≡ d = omega arith in let r : g a ≡ g d = ap g q in omega arith) (cases_lt a d)

param_is : (q : Process) (i : ℕ) → i < q.params → param q (q.first + i) ≡ true
param_is q i l = and_from _ _ (le-leb q.first (q.first + i) (omega arith)) (lt-ltb (q.first + i) (q.first + q.params) (omega arith))

from_param : (q : Process) (x : ℕ) → param q x ≡ true → (q.first ≤ x) × (x < q.first + q.params)
from_param q x e = let p = and_parts (leb q.first x) (ltb x (q.first + q.params)) e in (leb-true q.first x p.0, ltb-true x (q.first + q.params) p.1)

pub at_params : (q : Process) (H : ℕ → ℕ → Type 0) (g : ℕ → ℕ) → ((i n : ℕ) → H i n → n ≡ g i) → (x n : ℕ) → AtParams q H x n → n ≡ cond (param q x) (g (x - q.first)) 0
at_params q H g u x n h = go (param q x) refl
  where
    go : (b : Bool) → param q x ≡ b → n ≡ cond b (g (x - q.first)) 0
    go true e = let p = from_param q x e in let a = p.0 in let c = p.1 in u (x - q.first) n (h.0 (x - q.first) (omega arith) (omega arith))
    go false e = h.1 (λ i l k. both_ways (param q x) e (subst (λ y. param q y ≡ true) (sym k) (param_is q i l)))

params_at : (q : Process) (H : ℕ → ℕ → Type 0) (g : ℕ → ℕ) → ((i : ℕ) → H i (g i)) → (x : ℕ) → AtParams q H x (cond (param q x) (g (x - q.first)) 0)
params_at q H g u x = (
  (λ i l k. subst (H i) (sym (ap (λ b. cond b (g (x - q.first)) 0) (subst (λ y. param q y ≡ true) (sym k) (param_is q i l)) ∙ ap g (let z : x - q.first ≡ i = omega (arith, k) in z))) (u i)),
  λ off. go off (param q x) refl,
)
  where
    go : ((i : ℕ) → i < q.params → x ≡ q.first + i → ⊥) → (b : Bool) → param q x ≡ b → cond b (g (x - q.first)) 0 ≡ 0
    go off false e = refl
    go off true e = let p = from_param q x e in let a = p.0 in let c = p.1 in absurd (off (x - q.first) (omega arith) (omega arith))

cut_is : (size a v : ℕ) → CutTo size a v → v ≡ min a (size - 1)
cut_is size a v h = ⊎_elim (λ l. let e = h.0 l in omega arith) (λ l. let e = h.1 l in omega arith) (cases_lt a size)

is_cut : (size a : ℕ) → CutTo size a (min a (size - 1))
is_cut size a = ((λ l. omega arith), (λ l. omega arith))

module _ (L : Meaning) (m : Model) where
  pub is_term_lem : (t : Tree) (H : ℕ → ℕ → Type 0) (v : ℕ → ℕ) → ((x n : ℕ) → H x n → n ≡ v x) → (s : Term) → IsTerm L m t H s → s ≡ term L m.sizes t v
  is_term_lem t H v u s h =
      let q : s.place ≡ node t = h.0 in
      let r : s.values ≡ each m.sizes (λ x. cond (free L t x) (v x) 0) =
      by_places _ 0 (length m.sizes) s.values h.1 (λ x l. go x l (free L t x) refl ∙ ap (λ y. cond (free L t y) (v y) 0) (let z : x ≡ 0 + x = omega arith in z)) in
      λ i. record { place = q i; values = r i }
    where
      go : (x : ℕ) → x < length m.sizes → (b : Bool) → free L t x ≡ b → get_or s.values x 0 ≡ cond b (v x) 0
      go x l true e = u x _ (h.2 x l e)
      go x l false e = h.3 x l e

  term_is : (t : Tree) (H : ℕ → ℕ → Type 0) (v : ℕ → ℕ) → ((x : ℕ) → H x (v x)) → IsTerm L m t H (term L m.sizes t v)
  term_is t H v u = (
    refl,
    length-map-range_with_len _ 0 (length m.sizes),
    (λ x l e. subst (H x) (sym (get_or_each m (λ y. cond (free L t y) (v y) 0) x 0 l ∙ ap (λ b. cond b (v x) 0) e)) (u x)),
    (λ x l e. get_or_each m (λ y. cond (free L t y) (v y) 0) x 0 l ∙ ap (λ b. cond b (v x) 0) e),
  )

  -- what parameter i of p is given
  gift : ℕ → List ℕ → List ℕ → ℕ → ℕ
  gift p es ρ i = min (L.value (get_or es i 0) ρ) (get_or m.sizes ((process m p).first + i) 0 - 1)

  given_is : (p : ℕ) (es ρ : List ℕ) (x : ℕ) → cond (param (process m p) x) (gift p es ρ (x - (process m p).first)) 0 ≡ given L m p es ρ x
  unfolding gift
  given_is p es ρ x = go (param (process m p) x) refl
    where
      go : (b : Bool) → param (process m p) x ≡ b → cond b (gift p es ρ (x - (process m p).first)) 0 ≡ cond b (cut m.sizes x (L.value (get_or es (x - (process m p).first) 0) ρ)) 0
      go false e = refl
      go true e =
          let k = (from_param (process m p) x e).0 in
          ap (λ y. min (L.value (get_or es (x - (process m p).first) 0) ρ) (get_or m.sizes y 0 - 1)) (let z : (process m p).first + (x - (process m p).first) ≡ x = omega arith in z)

  itself : (t : Tree) (ρ : List ℕ) (s : Term) → Itself L m t ρ s → s ≡ term L m.sizes t (λ x. get_or ρ x 0)
  itself t ρ s h = is_term_lem t _ (λ x. get_or ρ x 0) (λ x n e. e) s h

  target_is : (p : Tree) (ρ : List ℕ) (s : Term) → Target L m p ρ s → s ≡ target L m (next p) ρ
  unfolding gift
  target_is (call n p es) ρ s h = is_term_lem (process m p).body _ (given L m p es ρ) (λ x v k. at_params (process m p) _ (gift p es ρ) (λ i c f. cut_is _ _ c f) x v k ∙ given_is p es ρ x) s h
  target_is (when n e t) ρ s h = itself (when n e t) ρ s h
  target_is (choice n l r) ρ s h = itself (choice n l r) ρ s h
  target_is (sum n x t) ρ s h = itself (sum n x t) ρ s h
  target_is (action n a es x w t) ρ s h = itself (action n a es x w t) ρ s h
  target_is (delay n r t) ρ s h = itself (delay n r t) ρ s h

  is_itself : (t : Tree) (ρ : List ℕ) → Itself L m t ρ (term L m.sizes t (λ x. get_or ρ x 0))
  is_itself t ρ = term_is t (λ x v. v ≡ get_or ρ x 0) (λ x. get_or ρ x 0) (λ x. refl)

  is_target : (p : Tree) (ρ : List ℕ) → Target L m p ρ (target L m (next p) ρ)
  unfolding gift
  is_target (call n p es) ρ =
      term_is (process m p).body (AtParams (process m p) (λ i v. CutTo (get_or m.sizes ((process m p).first + i) 0) (L.value (get_or es i 0) ρ) v)) (given L m p es ρ) (λ x. subst (AtParams (process m p) (λ i v. CutTo (get_or m.sizes ((process m p).first + i) 0) (L.value (get_or es i 0) ρ) v) x) (given_is p es ρ x)
      (params_at (process m p) (λ i v. CutTo (get_or m.sizes ((process m p).first + i) 0) (L.value (get_or es i 0) ρ) v) (gift p es ρ) (λ i. is_cut (get_or m.sizes ((process m p).first + i) 0) (L.value (get_or es i 0) ρ)) x))
  is_target (when n e t) ρ = is_itself (when n e t) ρ
  is_target (choice n l r) ρ = is_itself (choice n l r) ρ
  is_target (sum n x t) ρ = is_itself (sum n x t) ρ
  is_target (action n a es x w t) ρ = is_itself (action n a es x w t) ρ
  is_target (delay n r t) ρ = is_itself (delay n r t) ρ

  -- the weights' sum
  weigh : (x w : ℕ) (p : Tree) (ρ : List ℕ) → sum_by (λ o. o.weight) (outcomes L m.sizes x w (target L m (next p)) ρ) ≡ total (λ d. L.value w (set ρ x d)) (range_with_len 0 (get_or m.sizes x 0))
  weigh x w p ρ = sum_by_total (λ (o : Outcome Term). o.weight) _ ∙ total_map (λ (o : Outcome Term). o.weight) _ (range_with_len 0 (get_or m.sizes x 0))

  pub fro : {t : Tree} {ρ : List ℕ} {D : List Rule} {s : Transition Term} → Derivation L m t ρ D s → Derives L m t ρ D s
  fro (implies {n} {e} {p} {ρ} {D} {s} h d) = R.implies (ap not (ne_eqb (L.value e ρ) 0 h)) (fro d)
  fro (choice_l d) = R.choice_l (fro d)
  fro (choice_r d) = R.choice_r (fro d)
  fro (nsum l d) = R.nsum l (fro d)
  fro (psum {n} {a} {es} {x} {w} {p} {ρ} {args} {outs} ea el eo d l pos) =
      let here : args ≡ map (λ e. L.value e ρ) es = mapped (λ e. L.value e ρ) es args ea in
      let f : ℕ → Outcome Term = λ c. record { weight = L.value w (set ρ x c); to = target L m (next p) (set ρ x c) } in
      let same : outs ≡ outcomes L m.sizes x w (target L m (next p)) ρ =
      by_elements f 0 (get_or m.sizes x 0) outs el (λ i o k.
      let q : o.weight ≡ L.value w (set ρ x i) = (eo i o k).0 in
      let r : o.to ≡ target L m (next p) (set ρ x i) = target_is p (set ρ x i) o.to (eo i o k).1 in
      let e : o ≡ f i = λ j. record { weight = q j; to = r j } in
      e ∙ ap f (let z : i ≡ 0 + i = omega arith in z)) in
      let h : 0 < total (λ c. L.value w (set ρ x c)) (range_with_len 0 (get_or m.sizes x 0)) = one_positive _ 0 (get_or m.sizes x 0) d (omega arith) (omega arith) pos in
      subst (λ z. Derives L m (action n a es x w p) ρ (R.PSum ∷ []) z) (sym (ap₂ {C = Transition Term} (move a) here same)) (R.psum (subst (λ z. 0 < z) (sym (weigh x w p ρ)) h))
  fro (mstep {n} {r} {p} {ρ} {s} l h) = subst (λ z. Derives L m (delay n r p) ρ (R.MStep ∷ []) (wait (L.value r ρ) z)) (sym (target_is p ρ s h)) (R.mstep l)

  pub to : {t : Tree} {ρ : List ℕ} {D : List Rule} {s : Transition Term} → Derives L m t ρ D s → Derivation L m t ρ D s
  to (R.implies {n} {e} {p} {ρ} {D} {s} h d) = implies (λ z. both_ways (holds L e ρ) (ap (λ v. not (eqb v 0)) z) h) (to d)
  to (R.choice_l d) = choice_l (to d)
  to (R.choice_r d) = choice_r (to d)
  to (R.nsum l d) = nsum l (to d)
  to (R.psum {n} {a} {es} {x} {w} {p} {ρ} l) =
      let f : ℕ → Outcome Term = λ c. record { weight = L.value w (set ρ x c); to = target L m (next p) (set ρ x c) } in
      let z = some_positive (λ c. L.value w (set ρ x c)) 0 (get_or m.sizes x 0) (subst (λ k. 0 < k) (weigh x w p ρ) l) in
      psum (mapped_each (λ e. L.value e ρ) es) (length-map-range_with_len _ 0 (get_or m.sizes x 0))
      (λ d o k. let e : o ≡ f d = at_counting f 0 (get_or m.sizes x 0) d o k ∙ ap f (let y : 0 + d ≡ d = omega arith in y) in
      (ap (λ (y : Outcome Term). y.weight) e, subst (λ (y : Outcome Term). Target L m p (set ρ x d) y.to) (sym e) (is_target p (set ρ x d))))
      z.0 (let y = z.2 in omega arith) z.3
  to (R.mstep {n} {r} {p} {ρ} l) = mstep l (is_target p ρ)

pub lists_all : ListsAll
lists_all L m t ρ =
    let z : Enumerated L m t ρ = enumerates L m t ρ in
    record { list = R.derived L m t ρ; listed = z.listed; derive = All-weaker _ _ (λ y d. to L m d) (R.derived L m t ρ) z.derive; once = λ D s d f. z.once D s (fro L m d) f; ascends = ascends L m t ρ }

module _ (L : Meaning) (m : Model) where
  -- the first term is the start process's body, parameter i with start value i
  pub starts : IsTerm L m (process m m.begins).body (AtParams (process m m.begins) (λ i v. v ≡ get_or m.values i 0)) (start_term L m)
  starts = term_is L m (process m m.begins).body (AtParams (process m m.begins) (λ i v. v ≡ get_or m.values i 0)) (start_value m) (λ x. params_at (process m m.begins) (λ i v. v ≡ get_or m.values i 0) (λ i. get_or m.values i 0) (λ i. refl) x)
