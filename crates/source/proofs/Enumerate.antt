-- The list of transitions has each derivation once.
use Rattle.std.proofs.Common.{◌≡◌, ℕ, zero, suc, ◌+◌, ◌<◌, ◌≤◌, Bool, true, false, cond, ◌&&◌, eqb, List, [], ◌∷◌, ◌++◌, map, get_or, set, sum_by, sym, refl, ap, ◌∙◌, ap₂, ⊎_elim, add-zero, zero-add, arith}
use mathlib.Core.Path.{fun_ext}
use Rattle.std.specs.List.{range_with_len, flat_map, AllByRecursion}
use Rattle.std.proofs.lemmas.List.{map-append, map-id}
use Rattle.std.proofs.ByRecursion.{All-weaker, All-map, All-append}
use Rattle.std.proofs.lemmas.Bool.{eq-eqb, ne_eqb, eqb-false, cases_eq}
use Rattle.language.specs.Meanings.{Meaning}
use Rattle.model.specs.Trees.{Tree, call, when, choice, sum, action, delay}
use Rattle.valuation.specs.Valuations.{values_of, holds}
use Rattle.valuation.specs.Transitions.{Transition, move, wait}
use Rattle.valuation.specs.Doings.{acts, waits, outcomes, does}
use Rattle.source.specs.Models.{Model, Term, next}
use Rattle.source.specs.Terms.{target, transitions}
use Rattle.source.specs.Rules.{Rule, Implies, NChoiceL, NChoiceR, NSum, PSum, MStep, same_rules, Derived, under, from, derived, Derives, Enumerates, implies, choice_l, choice_r, nsum, psum, mstep}
use Rattle.source.proofs.Totals.{total, sum_by_total, total_append, total_joined, total_map, total_zero}
use Rattle.source.proofs.Mapped.{map_map, map_joined}

pub all_counting : (P : ℕ → Type 0) (a k n : ℕ) → a + k ≡ n → ((d : ℕ) → d < n → P d) → AllByRecursion P (range_with_len a k)
all_counting P a zero n e h = tt
all_counting P a (suc k) n e h = (h a (omega arith), all_counting P (a + 1) k n (omega arith) h)

all_joined : {X Y : Type 0} (P : Y → Type 0) (g : X → List Y) (xs : List X) → AllByRecursion (λ x. AllByRecursion P (g x)) xs → AllByRecursion P (flat_map g xs)
all_joined P g [] a = tt
all_joined P g (x ∷ xs) a = All-append P (g x) (flat_map g xs) a.0 (all_joined P g xs a.1)

nowhere : (g : ℕ → ℕ) (j a k : ℕ) → j < a → total (λ n. cond (eqb j n) (g n) 0) (range_with_len a k) ≡ 0
nowhere g j a zero l = refl
nowhere g j a (suc k) l = let ih = nowhere g j (a + 1) k (omega arith) in let e = ne_eqb j a (λ q. omega (arith, q)) in rw e (omega arith)

pub at_one : (g : ℕ → ℕ) (j a k : ℕ) → a ≤ j → j < a + k → total (λ n. cond (eqb j n) (g n) 0) (range_with_len a k) ≡ g j
at_one g j a zero l h = absurd (omega arith)
at_one g j a (suc k) l h = grind (arith, nowhere, at_one g j (a + 1) k, eq-eqb, ne_eqb)

eqb_five : (a b : ℕ) → eqb (5 + a) (5 + b) ≡ eqb a b
eqb_five a b = ⊎_elim (λ e. eq-eqb (5 + a) (5 + b) (omega arith) ∙ sym (eq-eqb a b e)) (λ n. ne_eqb (5 + a) (5 + b) (λ e. n (omega arith)) ∙ sym (ne_eqb a b n)) (cases_eq a b)

module _ (L : Meaning) (m : Model) where
  pub listed : (t : Tree) (ρ : List ℕ) → transitions L m t ρ ≡ map (λ z. z.gives) (derived L m t ρ)
  listed (call n p es) ρ = refl
  listed (when n e t) ρ = go (listed t ρ) (holds L e ρ)
    where
      go : transitions L m t ρ ≡ map (λ z. z.gives) (derived L m t ρ) → (b : Bool) → cond b (transitions L m t ρ) [] ≡ map (λ z. z.gives) (cond b (map (under Implies) (derived L m t ρ)) [])
      go ih false = refl
      go ih true = ih ∙ sym (map_map _ (under Implies) (derived L m t ρ))
  listed (choice n l r) ρ =
      ap₂ {C = List (Transition Term)} ◌++◌ (listed l ρ ∙ sym (map_map _ (under NChoiceL) (derived L m l ρ))) (listed r ρ ∙ sym (map_map _ (under NChoiceR) (derived L m r ρ)))
      ∙ sym (map-append (λ z. z.gives) (map (under NChoiceL) (derived L m l ρ)) (map (under NChoiceR) (derived L m r ρ)))
  listed (sum n x t) ρ =
      ap (λ (g : ℕ → List (Transition Term)). flat_map g (values_of m.sizes x)) (fun_ext (λ d. listed t (set ρ x d) ∙ sym (map_map _ (under (NSum d)) (derived L m t (set ρ x d)))))
      ∙ sym (map_joined (λ z. z.gives) (λ d. map (under (NSum d)) (derived L m t (set ρ x d))) (values_of m.sizes x))
  listed (action n a es x w t) ρ = sym (map_map _ (from PSum) (does L m.sizes (acts a es x w) (target L m (next t)) ρ) ∙ map-id _)
  listed (delay n r t) ρ = sym (map_map _ (from MStep) (does L m.sizes (waits r) (target L m (next t)) ρ) ∙ map-id _)

  pub derive : (t : Tree) (ρ : List ℕ) → AllByRecursion (λ z. Derives L m t ρ z.by z.gives) (derived L m t ρ)
  derive (call n p es) ρ = tt
  derive (when n e t) ρ = go (derive t ρ) (holds L e ρ) refl
    where
      go : AllByRecursion (λ z. Derives L m t ρ z.by z.gives) (derived L m t ρ) → (b : Bool) → holds L e ρ ≡ b
          → AllByRecursion (λ z. Derives L m (when n e t) ρ z.by z.gives) (cond b (map (under Implies) (derived L m t ρ)) [])
      go ih false h = tt
      go ih true h = All-map _ (under Implies) (derived L m t ρ) (All-weaker _ _ (λ z d. implies h d) (derived L m t ρ) ih)
  derive (choice n l r) ρ =
      All-append _ (map (under NChoiceL) (derived L m l ρ)) (map (under NChoiceR) (derived L m r ρ))
      (All-map _ (under NChoiceL) (derived L m l ρ) (All-weaker _ _ (λ z d. choice_l d) (derived L m l ρ) (derive l ρ)))
      (All-map _ (under NChoiceR) (derived L m r ρ) (All-weaker _ _ (λ z d. choice_r d) (derived L m r ρ) (derive r ρ)))
  derive (sum n x t) ρ =
      all_joined _ (λ d. map (under (NSum d)) (derived L m t (set ρ x d))) (values_of m.sizes x)
      (all_counting _ 0 (get_or m.sizes x 0) (get_or m.sizes x 0) (omega arith)
      (λ d l. All-map _ (under (NSum d)) (derived L m t (set ρ x d)) (All-weaker _ _ (λ z h. nsum l h) (derived L m t (set ρ x d)) (derive t (set ρ x d)))))
  derive (action n a es x w t) ρ = go (eqb (sum_by (λ o. o.weight) (outcomes L m.sizes x w (target L m (next t)) ρ)) 0) refl
    where
      go : (b : Bool) → eqb (sum_by (λ o. o.weight) (outcomes L m.sizes x w (target L m (next t)) ρ)) 0 ≡ b
          → AllByRecursion (λ z. Derives L m (action n a es x w t) ρ z.by z.gives) (map (from PSum) (cond b [] (move a (map (λ e. L.value e ρ) es) (outcomes L m.sizes x w (target L m (next t)) ρ) ∷ [])))
      go true h = tt
      go false h = (psum (let ne = eqb-false _ _ h in omega (arith, ne)), tt)
  derive (delay n r t) ρ = go (eqb (L.value r ρ) 0) refl
    where
      go : (b : Bool) → eqb (L.value r ρ) 0 ≡ b → AllByRecursion (λ z. Derives L m (delay n r t) ρ z.by z.gives) (map (from MStep) (cond b [] (wait (L.value r ρ) (target L m (next t) ρ) ∷ [])))
      go true h = tt
      go false h = (mstep (let ne = eqb-false _ _ h in omega (arith, ne)), tt)

  abbrev weighed : List Rule → (Transition Term → ℕ) → List Derived → ℕ
  weighed D f = total (λ z. cond (same_rules D z.by) (f z.gives) 0)

  pub once : {t : Tree} {ρ : List ℕ} {D : List Rule} {s : Transition Term} → Derives L m t ρ D s → (f : Transition Term → ℕ) → weighed D f (derived L m t ρ) ≡ f s
  once (implies {n} {e} {p} {ρ} {D} {s} h d) f =
      ap (λ b. weighed (Implies ∷ D) f (cond b (map (under Implies) (derived L m p ρ)) [])) h ∙ total_map _ (under Implies) (derived L m p ρ) ∙ once d f
  once (choice_l {n} {p} {q} {ρ} {D} {s} d) f =
      total_append _ (map (under NChoiceL) (derived L m p ρ)) (map (under NChoiceR) (derived L m q ρ))
      ∙ ap₂ ◌+◌ (total_map _ (under NChoiceL) (derived L m p ρ) ∙ once d f) (total_map _ (under NChoiceR) (derived L m q ρ) ∙ total_zero (derived L m q ρ))
      ∙ add-zero (f s)
  once (choice_r {n} {p} {q} {ρ} {D} {s} d) f =
      total_append _ (map (under NChoiceL) (derived L m p ρ)) (map (under NChoiceR) (derived L m q ρ))
      ∙ ap₂ ◌+◌ (total_map _ (under NChoiceL) (derived L m p ρ) ∙ total_zero (derived L m p ρ)) (total_map _ (under NChoiceR) (derived L m q ρ) ∙ once d f)
      ∙ zero-add (f s)
  once (nsum {n} {x} {d} {p} {ρ} {D} {s} l h) f =
      total_joined _ (λ c. map (under (NSum c)) (derived L m p (set ρ x c))) (values_of m.sizes x)
      ∙ ap (λ g. total g (values_of m.sizes x)) (fun_ext (λ c. total_map _ (under (NSum c)) (derived L m p (set ρ x c)) ∙ ap (λ b. total (λ z. cond (b && same_rules D z.by) (f z.gives) 0) (derived L m p (set ρ x c))) (eqb_five d c) ∙ split (eqb d c) c))
      ∙ at_one (λ c. weighed D f (derived L m p (set ρ x c))) d 0 (get_or m.sizes x 0) (omega arith) (omega arith)
      ∙ once h f
    where
      split : (b : Bool) (c : ℕ) → total (λ z. cond (b && same_rules D z.by) (f z.gives) 0) (derived L m p (set ρ x c)) ≡ cond b (weighed D f (derived L m p (set ρ x c))) 0
      split true c = refl
      split false c = total_zero (derived L m p (set ρ x c))
  once (psum {n} {a} {es} {x} {w} {p} {ρ} l) f =
      let e = ne_eqb (sum_by (λ o. o.weight) (outcomes L m.sizes x w (target L m (next p)) ρ)) 0 (λ q. omega (arith, q)) in
      ap (λ b. weighed (PSum ∷ []) f (map (from PSum) (cond b [] (move a (map (λ e. L.value e ρ) es) (outcomes L m.sizes x w (target L m (next p)) ρ) ∷ [])))) e ∙ add-zero _
  once (mstep {n} {r} {p} {ρ} l) f =
      let e = ne_eqb (L.value r ρ) 0 (λ q. omega (arith, q)) in
      ap (λ b. weighed (MStep ∷ []) f (map (from MStep) (cond b [] (wait (L.value r ρ) (target L m (next p) ρ) ∷ [])))) e ∙ add-zero _

pub enumerates : Enumerates
enumerates L m t ρ = record { listed = listed L m t ρ; derive = derive L m t ρ; once = λ D s d f. sum_by_total _ (derived L m t ρ) ∙ once L m d f }
