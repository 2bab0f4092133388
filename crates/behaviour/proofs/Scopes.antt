-- Steps depend on the free variables alone. Assumes nothing.
use Rattle.std.proofs.Common.{◌≡◌, ℕ, ◌+◌, ◌-◌, ◌<◌, ◌≤◌, Bool, true, false, cond, not, ◌||◌, eqb, ltb, leb, List, [], ◌∷◌, ◌++◌, map, length, get_or, set, sum_by, sym, refl, ap, ◌∙◌, ap₂, ⊎_elim, arith, length-set, get_or-set_other, get_or-set_same}
use mathlib.Core.Path.{fun_ext}
use lib.ListN.{get_or-eq_default}
use lib.Seq.{set_out}
use Rattle.std.specs.List.{flat_map, AllByRecursion}
use Rattle.std.proofs.ByRecursion.{All-get_or}
use Rattle.std.proofs.lemmas.Bool.{ne_eqb, or_left, or_right, or_cases, or_parts, or_from, and_parts, cases_eq, cases_lt, both_ways, not-true, leb-true, ltb-true}
use Rattle.language.specs.Meanings.{Meaning, Lawful}
use Rattle.behaviour.proofs.Once.{Agrees, Scoped}
use Rattle.model.specs.Trees.{Tree, call, when, choice, sum, action, delay}
use Rattle.source.specs.Models.{node, Model, calls, rests, next, Term, process, param}
use Rattle.valuation.specs.Doings.{acts, does}
use Rattle.valuation.specs.Transitions.{Outcome, Transition, move, wait}
use Rattle.valuation.specs.Valuations.{values_of, each, cut}
use Rattle.source.specs.Free.{named, named_in, bound, free}
use Rattle.source.specs.Terms.{term, target, transitions}
use Rattle.source.specs.Sound.{Scope, adding, Within, Calls}

pub agree_set : (ρ σ : List ℕ) (x d y : ℕ) → length ρ ≡ length σ → (eqb x y ≡ false → Agrees ρ σ y) → Agrees (set ρ x d) (set σ x d) y
agree_set ρ σ x d y len h = ⊎_elim same other (cases_eq y x)
  where
    other : (y ≡ x → ⊥) → Agrees (set ρ x d) (set σ x d) y
    other ne = get_or-set_other ρ x y d 0 ne ∙ h (ne_eqb x y (λ e. ne (sym e))) ∙ sym (get_or-set_other σ x y d 0 ne)

    same : y ≡ x → Agrees (set ρ x d) (set σ x d) y
    same e = rw e (⊎_elim inside outside (cases_lt x (length ρ)))
      where
        inside : x < length ρ → Agrees (set ρ x d) (set σ x d) x
        inside l = get_or-set_same ρ x d 0 l ∙ sym (get_or-set_same σ x d 0 (omega arith))

        outside : length ρ ≤ x → Agrees (set ρ x d) (set σ x d) x
        outside l = ap (λ (τ : List ℕ). get_or τ x 0) (set_out ρ x d l) ∙ get_or-eq_default ρ 0 l ∙ sym (get_or-eq_default σ 0 (omega arith)) ∙ sym (ap (λ (τ : List ℕ). get_or τ x 0) (set_out σ x d (omega arith)))

module _ (L : Meaning) where
  fresh : (S : Scope) (y : ℕ) (t : Tree) (x : ℕ) → S y ≡ false → S x ≡ true → bound t x ≡ false → (eqb y x || bound t x) ≡ false
  fresh S y t x o i h = or_from _ _ (ne_eqb y x (λ e. both_ways (S x) (ap S (sym e) ∙ o) i)) h

  -- what is in scope is not bound below
  pub unbound : (S : Scope) (t : Tree) (x : ℕ) → Scoped L S t → S x ≡ true → bound t x ≡ false
  unbound S (call n p es) x s i = refl
  unbound S (when n e t) x s i = unbound S t x s.1 i
  unbound S (choice n l r) x s i = or_from _ _ (unbound S l x s.0 i) (unbound S r x s.1 i)
  unbound S (sum n y t) x s i = fresh S y t x s.0 i (unbound (adding y S) t x s.1 (or_right _ _ i))
  unbound S (action n a es y w t) x s i = fresh S y t x s.0 i (unbound (adding y S) t x s.3 (or_right _ _ i))
  unbound S (delay n r t) x s i = unbound S t x s.1 i

  from_args : (S : Scope) (es : List ℕ) (x : ℕ) → AllByRecursion (Within L S) es → named_in L es x ≡ true → S x ≡ true
  from_args S [] x a h = absurd (both_ways _ refl h)
  from_args S (e ∷ es) x a h = ⊎_elim (a.0.1 x) (from_args S es x a.1) (or_cases _ _ h)

  out : (S : Scope) (y x : ℕ) → eqb y x ≡ false → adding y S x ≡ true → S x ≡ true
  out S y x ne h = rw ne at h

  -- what is named and not bound below is in scope
  pub inside : (S : Scope) (t : Tree) (x : ℕ) → Scoped L S t → named L t x ≡ true → bound t x ≡ false → S x ≡ true
  inside S (call n p es) x s h b = from_args S es x s h
  inside S (when n e t) x s h b = ⊎_elim (s.0.1 x) (λ k. inside S t x s.1 k b) (or_cases _ _ h)
  inside S (choice n l r) x s h b = ⊎_elim (λ k. inside S l x s.0 k (or_parts _ _ b).0) (λ k. inside S r x s.1 k (or_parts _ _ b).1) (or_cases _ _ h)
  inside S (sum n y t) x s h b = out S y x (or_parts _ _ b).0 (inside (adding y S) t x s.1 h (or_parts _ _ b).1)
  inside S (action n a es y w t) x s h b =
      ⊎_elim (from_args S es x s.1) (λ k. out S y x (or_parts _ _ b).0 (⊎_elim (s.2.1 x) (λ j. inside (adding y S) t x s.3 j (or_parts _ _ b).1) (or_cases _ _ k))) (or_cases _ _ h)
  inside S (delay n r t) x s h b = ⊎_elim (s.0.1 x) (λ k. inside S t x s.1 k b) (or_cases _ _ h)

  -- Valuations that agree where a tree under S looks.
  abbrev pub Alike : Scope → (ℕ → Bool) → List ℕ → List ℕ → Type 0
  Alike S p ρ σ = (length ρ ≡ length σ) × ((x : ℕ) → S x ≡ true → p x ≡ true → Agrees ρ σ x)

  less : (S : Scope) (p q : ℕ → Bool) (ρ σ : List ℕ) → ((x : ℕ) → q x ≡ true → p x ≡ true) → Alike S p ρ σ → Alike S q ρ σ
  less S p q ρ σ h a = (a.0, λ x i k. a.1 x i (h x k))

  alike_set : (S : Scope) (p : ℕ → Bool) (ρ σ : List ℕ) (y d : ℕ) → Alike S p ρ σ → Alike (adding y S) p (set ρ y d) (set σ y d)
  alike_set S p ρ σ y d a = (length-set ρ y d ∙ a.0 ∙ sym (length-set σ y d), λ x i k. agree_set ρ σ y d x a.0 (λ ne. a.1 x (out S y x ne i) k))

map_same : {X Y : Type 0} (f g : X → Y) (xs : List X) → AllByRecursion (λ x. f x ≡ g x) xs → map f xs ≡ map g xs
map_same f g [] a = refl
map_same f g (x ∷ xs) a = ap₂ {C = List _} ◌∷◌ a.0 (map_same f g xs a.1)

module _ (L : Meaning) (law : Lawful L) (m : Model) where
  value_same : (S : Scope) (p : ℕ → Bool) (ρ σ : List ℕ) (e : ℕ) → Within L S e → ((x : ℕ) → L.names e x ≡ true → p x ≡ true) → Alike L S p ρ σ → L.value e ρ ≡ L.value e σ
  value_same S p ρ σ e w h a = law.agrees e ρ σ (λ x k. a.1 x (w.1 x k) (h x k))

  values_same : (S : Scope) (p : ℕ → Bool) (ρ σ : List ℕ) (es : List ℕ) → AllByRecursion (Within L S) es → ((x : ℕ) → named_in L es x ≡ true → p x ≡ true) → Alike L S p ρ σ
      → AllByRecursion (λ e. L.value e ρ ≡ L.value e σ) es
  values_same S p ρ σ [] w h a = tt
  values_same S p ρ σ (e ∷ es) w h a = (value_same S p ρ σ e w.0 (λ x k. h x (or_left _ _ k)) a, values_same S p ρ σ es w.1 (λ x k. h x (or_right _ _ k)) a)

  rest_same : (S : Scope) (t : Tree) (ρ σ : List ℕ) → Scoped L S t → Alike L S (named L t) ρ σ → target L m (rests t) ρ ≡ target L m (rests t) σ
  rest_same S t ρ σ s a = ap (λ (f : ℕ → ℕ). record { place = node t; values = each m.sizes f }) (fun_ext (λ x. go x (free L t x) refl))
    where
      go : (x : ℕ) (b : Bool) → free L t x ≡ b → cond b (get_or ρ x 0) 0 ≡ cond b (get_or σ x 0) 0
      go x false e = refl
      go x true e = let n = and_parts (named L t x) (not (bound t x)) e in a.1 x (inside L S t x s n.0 (not-true _ n.1)) n.0

  call_same : (p : ℕ) (es : List ℕ) (ρ σ : List ℕ) → length es ≡ (process m p).params → AllByRecursion (λ e. L.value e ρ ≡ L.value e σ) es → target L m (calls p es) ρ ≡ target L m (calls p es) σ
  call_same p es ρ σ len a = ap (term L m.sizes (process m p).body) (fun_ext (λ x. go x (param (process m p) x) refl))
    where
      go : (x : ℕ) (b : Bool) → param (process m p) x ≡ b → cond b (cut m.sizes x (L.value (get_or es (x - (process m p).first) 0) ρ)) 0 ≡ cond b (cut m.sizes x (L.value (get_or es (x - (process m p).first) 0) σ)) 0
      go x false e = refl
      go x true e =
          let q = process m p in let n = and_parts (leb q.first x) (ltb x (q.first + q.params)) e in
          let lo = leb-true q.first x n.0 in let hi = ltb-true x (q.first + q.params) n.1 in
          ap (cut m.sizes x) (All-get_or (λ i. L.value i ρ ≡ L.value i σ) es (x - (process m p).first) 0 (omega arith) a)

  target_same : (S : Scope) (t : Tree) (ρ σ : List ℕ) → Scoped L S t → Calls m t → Alike L S (named L t) ρ σ → target L m (next t) ρ ≡ target L m (next t) σ
  target_same S (call n p es) ρ σ s c a = call_same p es ρ σ c.1 (values_same S (named_in L es) ρ σ es s (λ x k. k) a)
  target_same S (when n e t) ρ σ s c a = rest_same S (when n e t) ρ σ s a
  target_same S (choice n l r) ρ σ s c a = rest_same S (choice n l r) ρ σ s a
  target_same S (sum n x t) ρ σ s c a = rest_same S (sum n x t) ρ σ s a
  target_same S (action n k es x w t) ρ σ s c a = rest_same S (action n k es x w t) ρ σ s a
  target_same S (delay n r t) ρ σ s c a = rest_same S (delay n r t) ρ σ s a

  acts_same : {S : Type 0} (a : ℕ) (es : List ℕ) (x w : ℕ) (to : List ℕ → S) (ρ σ : List ℕ)
      → AllByRecursion (λ e. L.value e ρ ≡ L.value e σ) es → ((d : ℕ) → L.value w (set ρ x d) ≡ L.value w (set σ x d)) → ((d : ℕ) → to (set ρ x d) ≡ to (set σ x d))
      → does L m.sizes (acts a es x w) to ρ ≡ does L m.sizes (acts a es x w) to σ
  acts_same {S} a es x w to ρ σ h i j =
      ap₂ (λ (vs : List ℕ) (os : List (Outcome S)). cond (eqb (sum_by (λ o. o.weight) os) 0) [] (move a vs os ∷ []))
      (map_same _ _ es h)
      (ap (λ (f : ℕ → Outcome S). map f (values_of m.sizes x)) (fun_ext (λ d. λ k. record { weight = i d k; to = j d k })))

  pub transitions_same : (S : Scope) (t : Tree) (ρ σ : List ℕ) → Scoped L S t → Calls m t → Alike L S (named L t) ρ σ → transitions L m t ρ ≡ transitions L m t σ
  transitions_same S (call n p es) ρ σ s c a = refl
  transitions_same S (when n e t) ρ σ s c a =
      let v = value_same S (named L (when n e t)) ρ σ e s.0 (λ x k. or_left _ _ k) a in
      let ih : transitions L m t ρ ≡ transitions L m t σ = transitions_same S t ρ σ s.1 c (less L S _ (named L t) ρ σ (λ x k. or_right (L.names e x) _ k) a) in cc
  transitions_same S (choice n l r) ρ σ s c a =
      ap₂ {C = List (Transition Term)} ◌++◌ (transitions_same S l ρ σ s.0 c.0 (less L S _ _ ρ σ (λ x k. or_left _ _ k) a)) (transitions_same S r ρ σ s.1 c.1 (less L S _ _ ρ σ (λ x k. or_right _ _ k) a))
  transitions_same S (sum n x t) ρ σ s c a =
      ap (λ (f : ℕ → List (Transition Term)). flat_map f (values_of m.sizes x)) (fun_ext (λ d. transitions_same (adding x S) t (set ρ x d) (set σ x d) s.1 c (alike_set L S _ ρ σ x d a)))
  transitions_same S (action n k es x w t) ρ σ s c a =
      acts_same k es x w (target L m (next t)) ρ σ
      (values_same S _ ρ σ es s.1 (λ y j. or_left _ _ j) a)
      (λ d. value_same (adding x S) _ (set ρ x d) (set σ x d) w s.2 (λ y j. or_right _ _ (or_left _ _ j)) (alike_set L S _ ρ σ x d a))
      (λ d. target_same (adding x S) t (set ρ x d) (set σ x d) s.3 c (less L (adding x S) _ _ (set ρ x d) (set σ x d) (λ y j. or_right (named_in L es y) _ (or_right (L.names w y) _ j)) (alike_set L S _ ρ σ x d a)))
  transitions_same S (delay n r t) ρ σ s c a =
      let v = value_same S (named L (delay n r t)) ρ σ r s.0 (λ x k. or_left _ _ k) a in
      let g = target_same S t ρ σ s.1 c (less L S _ _ ρ σ (λ x k. or_right _ _ k) a) in
      ap₂ (λ (q : ℕ) (u : Term). cond (eqb q 0) [] (wait q u ∷ [])) v g
