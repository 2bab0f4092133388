-- What free means.
use Rattle.std.proofs.Common.{◌≡◌, ℕ, zero, suc, Bool, true, false, not, ◌||◌, eqb, List, [], ◌∷◌, Some, None, Option, sym, refl, ap, subst, inl, inr, ⊎_elim}
use Rattle.std.specs.List.{slice_get}
use Rattle.std.proofs.lemmas.Bool.{eq-eqb, eqb-true, cases_Bool, and_parts, and_from, both_ways, or_cases, or_left, or_right}
use Rattle.language.specs.Meanings.{Meaning}
use Rattle.model.specs.Trees.{Tree, call, when, choice, sum, action, delay}
use Rattle.source.specs.Free.{named_in, named, bound, Sub, here, in_when, in_left, in_right, in_sum, in_action, in_delay, Uses, BindsIt, FreeMeans}

is_none : {X : Type 0} → Option X → Type 0
is_none None = Unit {0}
is_none (Some x) = ⊥

none_some : {X : Type 0} (x : X) → None ≡ Some x → ⊥
unfolding is_none
none_some x e = subst is_none e tt

module _ (L : Meaning) (x : ℕ) where
  list_to : (es : List ℕ) → named_in L es x ≡ true → (e : ℕ) × ((k : ℕ) × (slice_get es k ≡ Some e)) × (L.names e x ≡ true)
  list_to [] h = absurd (both_ways false refl h)
  list_to (e ∷ es) h = ⊎_elim (λ z. (e, (0, refl), z)) (λ z. let r = list_to es z in (r.0, (suc r.1.0, r.1.1), r.2)) (or_cases (L.names e x) (named_in L es x) h)

  list_from : (es : List ℕ) (e k : ℕ) → slice_get es k ≡ Some e → L.names e x ≡ true → named_in L es x ≡ true
  list_from [] e k h n = absurd (none_some e h)
  list_from (c ∷ es) e zero h n = let q : c ≡ e = cc in or_left (L.names c x) (named_in L es x) (subst (λ z. L.names z x ≡ true) (sym q) n)
  list_from (c ∷ es) e (suc k) h n = or_right (L.names c x) (named_in L es x) (list_from es e k h n)

  abbrev Names : Tree → Type 0
  Names t = (u : Tree) × (e : ℕ) × Sub u t × Uses u e × (L.names e x ≡ true)

  named_to : (t : Tree) → named L t x ≡ true → Names t
  named_to (call n p es) h = let r = list_to es h in (call n p es, r.0, here, r.1, r.2)
  named_to (when n e t) h = ⊎_elim (λ z. (when n e t, e, here, refl, z)) (λ z. let r = named_to t z in (r.0, r.1, in_when r.2, r.3, r.4)) (or_cases (L.names e x) (named L t x) h)
  named_to (choice n l r) h =
      ⊎_elim (λ z. let y = named_to l z in (y.0, y.1, in_left y.2, y.3, y.4)) (λ z. let y = named_to r z in (y.0, y.1, in_right y.2, y.3, y.4)) (or_cases (named L l x) (named L r x) h)
  named_to (sum n y t) h = let r = named_to t h in (r.0, r.1, in_sum r.2, r.3, r.4)
  named_to (action n a es y w t) h =
      ⊎_elim (λ z. let r = list_to es z in (action n a es y w t, r.0, here, inl r.1, r.2))
      (λ z. ⊎_elim (λ v. (action n a es y w t, w, here, inr refl, v)) (λ v. let r = named_to t v in (r.0, r.1, in_action r.2, r.3, r.4)) (or_cases (L.names w x) (named L t x) z))
      (or_cases (named_in L es x) (L.names w x || named L t x) h)
  named_to (delay n r t) h = ⊎_elim (λ z. (delay n r t, r, here, refl, z)) (λ z. let y = named_to t z in (y.0, y.1, in_delay y.2, y.3, y.4)) (or_cases (L.names r x) (named L t x) h)

  root : (u : Tree) (e : ℕ) → Uses u e → L.names e x ≡ true → named L u x ≡ true
  root (call n p es) e h k = list_from es e h.0 h.1 k
  root (when n c t) e h k = or_left (L.names c x) (named L t x) (subst (λ z. L.names z x ≡ true) (sym h) k)
  root (choice n l r) e h k = absurd h
  root (sum n y t) e h k = absurd h
  root (action n a es y w t) e h k =
      ⊎_elim (λ z. or_left (named_in L es x) (L.names w x || named L t x) (list_from es e z.0 z.1 k))
      (λ z. or_right (named_in L es x) (L.names w x || named L t x) (or_left (L.names w x) (named L t x) (subst (λ v. L.names v x ≡ true) (sym z) k))) h
  root (delay n r t) e h k = or_left (L.names r x) (named L t x) (subst (λ z. L.names z x ≡ true) (sym h) k)

  up_named : {u t : Tree} → Sub u t → named L u x ≡ true → named L t x ≡ true
  up_named here h = h
  up_named (in_when {n} {e} {t} s) h = or_right (L.names e x) (named L t x) (up_named s h)
  up_named (in_left {n} {l} {r} s) h = or_left (named L l x) (named L r x) (up_named s h)
  up_named (in_right {n} {l} {r} s) h = or_right (named L l x) (named L r x) (up_named s h)
  up_named (in_sum s) h = up_named s h
  up_named (in_action {n} {a} {es} {x = y} {w} {t} s) h = or_right (named_in L es x) (L.names w x || named L t x) (or_right (L.names w x) (named L t x) (up_named s h))
  up_named (in_delay {n} {r} {t} s) h = or_right (L.names r x) (named L t x) (up_named s h)

  binder : (u : Tree) → BindsIt u x → bound u x ≡ true
  binder (call n p es) h = absurd h
  binder (when n c t) h = absurd h
  binder (choice n l r) h = absurd h
  binder (sum n y t) h = or_left (eqb y x) (bound t x) (eq-eqb y x h)
  binder (action n a es y w t) h = or_left (eqb y x) (bound t x) (eq-eqb y x h)
  binder (delay n r t) h = absurd h

  up_bound : {u t : Tree} → Sub u t → bound u x ≡ true → bound t x ≡ true
  up_bound here h = h
  up_bound (in_when s) h = up_bound s h
  up_bound (in_left {n} {l} {r} s) h = or_left (bound l x) (bound r x) (up_bound s h)
  up_bound (in_right {n} {l} {r} s) h = or_right (bound l x) (bound r x) (up_bound s h)
  up_bound (in_sum {n} {x = y} {t} s) h = or_right (eqb y x) (bound t x) (up_bound s h)
  up_bound (in_action {n} {a} {es} {x = y} {w} {t} s) h = or_right (eqb y x) (bound t x) (up_bound s h)
  up_bound (in_delay s) h = up_bound s h

  bound_to : (t : Tree) → bound t x ≡ true → (u : Tree) × Sub u t × BindsIt u x
  bound_to (call n p es) h = absurd (both_ways false refl h)
  bound_to (when n e t) h = let r = bound_to t h in (r.0, in_when r.1, r.2)
  bound_to (choice n l r) h = ⊎_elim (λ z. let y = bound_to l z in (y.0, in_left y.1, y.2)) (λ z. let y = bound_to r z in (y.0, in_right y.1, y.2)) (or_cases (bound l x) (bound r x) h)
  bound_to (sum n y t) h = ⊎_elim (λ z. (sum n y t, here, eqb-true y x z)) (λ z. let r = bound_to t z in (r.0, in_sum r.1, r.2)) (or_cases (eqb y x) (bound t x) h)
  bound_to (action n a es y w t) h = ⊎_elim (λ z. (action n a es y w t, here, eqb-true y x z)) (λ z. let r = bound_to t z in (r.0, in_action r.1, r.2)) (or_cases (eqb y x) (bound t x) h)
  bound_to (delay n r t) h = let y = bound_to t h in (y.0, in_delay y.1, y.2)

not_off : (b : Bool) → not b ≡ true → b ≡ true → ⊥
not_off true h k = both_ways false refl h
not_off false h k = both_ways false refl k

pub free_means : FreeMeans
free_means L t x = (
  (λ h. let p = and_parts (named L t x) (not (bound t x)) h in (named_to L x t p.0, λ u s b. not_off (bound t x) p.1 (up_bound L x s (binder L x u b)))),
  (λ h. and_from (named L t x) (not (bound t x)) (up_named L x h.0.2 (root L x h.0.0 h.0.1 h.0.3 h.0.4))
      (⊎_elim (λ b. let r = bound_to L x t b in absurd (h.1 r.0 r.1 r.2)) (λ b. ap not b) (cases_Bool (bound t x)))),
)
