-- A language fits a model in words just where it fits the model's trees. Assumes nothing.
use Rattle.std.proofs.Common.{◌≡◌, ℕ, zero, suc, ◌+◌, ◌-◌, ◌<◌, true, eqb, ltb, leb, ◌⊎◌, List, [], ◌∷◌, Some, None, Option, refl, subst, inl, inr, ⊎_elim, arith}
use Rattle.std.specs.List.{slice_get, AllByRecursion}
use Rattle.std.proofs.lemmas.Bool.{or_cases, or_left, or_right, and_parts, and_from, eqb-true, eq-eqb, leb-true, ltb-true, le-leb, lt-ltb}
use Rattle.words.specs.Headers.{Iff}
use Rattle.language.specs.Meanings.{Meaning}
use Rattle.model.specs.Trees.{Tree, call, when, choice, sum, action, delay}
use Rattle.source.specs.Free.{Sub, here, in_when, in_left, in_right, in_sum, in_action, in_delay, BindsIt}
use Rattle.source.specs.Models.{Process, Model, param}
use Rattle.source.specs.Sound.{Scope, adding, Within, InScope, Fits}
use Rattle.fit.specs.InWords.{Reads, Weighs, BoundAbove, IsParameter, Known, Suits}

none_some : {X : Type 0} {x : X} → ◌≡◌ {A = Option X} None (Some x) → ⊥
none_some e = let z : ◌≡◌ {A = ℕ} 0 1 = cc in omega arith

pub all_nth : {X : Type 0} (P : X → Type 0) (xs : List X) (k : ℕ) (x : X) → AllByRecursion P xs → slice_get xs k ≡ Some x → P x
all_nth P [] k x a e = absurd (none_some e)
all_nth P (y ∷ ys) zero x a e = let q : y ≡ x = cc in subst P q a.0
all_nth P (y ∷ ys) (suc k) x a e = all_nth P ys k x a.1 e

pub nth_all : {X : Type 0} (P : X → Type 0) (xs : List X) → ((k : ℕ) (x : X) → slice_get xs k ≡ Some x → P x) → AllByRecursion P xs
nth_all P [] h = tt
nth_all P (y ∷ ys) h = (h 0 y refl, nth_all P ys (λ k x e. h (suc k) x e))

-- the scope where a way down ends, S being the scope where it starts
abbrev pub scope_down : {u t : Tree} → Sub u t → Scope → Scope
scope_down here S = S
scope_down (in_when s) S = scope_down s S
scope_down (in_left s) S = scope_down s S
scope_down (in_right s) S = scope_down s S
scope_down (in_sum {n} {x = y} s) S = scope_down s (adding y S)
scope_down (in_action {n} {a} {es} {x = y} s) S = scope_down s (adding y S)
scope_down (in_delay s) S = scope_down s S

added_to : (S : Scope) (y x : ℕ) (B : Type 0) → (adding y S x ≡ true) ⊎ B → (S x ≡ true) ⊎ ((y ≡ x) ⊎ B)
added_to S y x B (inl h) = ⊎_elim (λ e. inr (inl (eqb-true y x e))) inl (or_cases (eqb y x) (S x) h)
added_to S y x B (inr b) = inr (inr b)

added_from : (S : Scope) (y x : ℕ) (B : Type 0) → (S x ≡ true) ⊎ ((y ≡ x) ⊎ B) → (adding y S x ≡ true) ⊎ B
added_from S y x B (inl h) = inl (or_right (eqb y x) (S x) h)
added_from S y x B (inr (inl e)) = inl (or_left (eqb y x) (S x) (eq-eqb y x e))
added_from S y x B (inr (inr b)) = inr b

down_to : {u t : Tree} (s : Sub u t) (S : Scope) (x : ℕ) → scope_down s S x ≡ true → (S x ≡ true) ⊎ BoundAbove s x
down_to here S x h = inl h
down_to (in_when s) S x h = down_to s S x h
down_to (in_left s) S x h = down_to s S x h
down_to (in_right s) S x h = down_to s S x h
down_to (in_sum {n} {x = y} s) S x h = added_to S y x (BoundAbove s x) (down_to s (adding y S) x h)
down_to (in_action {n} {a} {es} {x = y} s) S x h = added_to S y x (BoundAbove s x) (down_to s (adding y S) x h)
down_to (in_delay s) S x h = down_to s S x h

down_from : {u t : Tree} (s : Sub u t) (S : Scope) (x : ℕ) → (S x ≡ true) ⊎ BoundAbove s x → scope_down s S x ≡ true
down_from here S x (inl h) = h
down_from here S x (inr h) = absurd h
down_from (in_when s) S x h = down_from s S x h
down_from (in_left s) S x h = down_from s S x h
down_from (in_right s) S x h = down_from s S x h
down_from (in_sum {n} {x = y} s) S x h = down_from s (adding y S) x (added_from S y x (BoundAbove s x) h)
down_from (in_action {n} {a} {es} {x = y} s) S x h = down_from s (adding y S) x (added_from S y x (BoundAbove s x) h)
down_from (in_delay s) S x h = down_from s S x h

pub param_to : (q : Process) (x : ℕ) → param q x ≡ true → IsParameter q x
param_to q x h =
    let p = and_parts (leb q.first x) (ltb x (q.first + q.params)) h in
    let a = leb-true q.first x p.0 in
    let b = ltb-true x (q.first + q.params) p.1 in
    (x - q.first, omega arith, omega arith)

pub param_from : (q : Process) (x : ℕ) → IsParameter q x → param q x ≡ true
param_from q x (i, l, e) = and_from (leb q.first x) (ltb x (q.first + q.params)) (le-leb q.first x (omega arith)) (lt-ltb x (q.first + q.params) (omega arith))

module _ (L : Meaning) where
  -- the expressions that the node at the root uses, S being the scope there
  abbrev pub RootIn : Scope → Tree → Type 0
  RootIn S (call n p es) = AllByRecursion (Within L S) es
  RootIn S (when n e t) = Within L S e
  RootIn S (choice n l r) = Unit {0}
  RootIn S (sum n x t) = Unit {0}
  RootIn S (action n a es x w t) = AllByRecursion (Within L S) es × Within L (adding x S) w
  RootIn S (delay n r t) = Within L S r

  root : (t : Tree) (S : Scope) → InScope L S t → RootIn S t
  root (call n p es) S h = h
  root (when n e t) S h = h.0
  root (choice n l r) S h = tt
  root (sum n x t) S h = tt
  root (action n a es x w t) S h = (h.0, h.1)
  root (delay n r t) S h = h.0

  reach : {u t : Tree} (s : Sub u t) (S : Scope) → InScope L S t → RootIn (scope_down s S) u
  reach {u} here S h = root u S h
  reach (in_when s) S h = reach s S h.1
  reach (in_left s) S h = reach s S h.0
  reach (in_right s) S h = reach s S h.1
  reach (in_sum {n} {x = y} s) S h = reach s (adding y S) h
  reach (in_action {n} {a} {es} {x = y} s) S h = reach s (adding y S) h.2
  reach (in_delay s) S h = reach s S h.1

  gather : (t : Tree) (S : Scope) → ((u : Tree) (s : Sub u t) → RootIn (scope_down s S) u) → InScope L S t
  gather (call n p es) S h = h (call n p es) here
  gather (when n e t) S h = (h (when n e t) here, gather t S (λ u s. h u (in_when s)))
  gather (choice n l r) S h = (gather l S (λ u s. h u (in_left s)), gather r S (λ u s. h u (in_right s)))
  gather (sum n x t) S h = gather t (adding x S) (λ u s. h u (in_sum s))
  gather (action n a es x w t) S h = let z = h (action n a es x w t) here in (z.0, z.1, gather t (adding x S) (λ u s. h u (in_action s)))
  gather (delay n r t) S h = (h (delay n r t) here, gather t S (λ u s. h u (in_delay s)))

  -- the weight of the node at the root
  abbrev Weight : Scope → Tree → ℕ → Type 0
  Weight S u e = (e < L.count) × ((x : ℕ) → L.names e x ≡ true → (S x ≡ true) ⊎ BindsIt u x)

  reads_of : (u : Tree) (S : Scope) (e : ℕ) → RootIn S u → Reads u e → Within L S e
  reads_of (call n p es) S e h r = all_nth (Within L S) es r.0 e h r.1
  reads_of (when n c t) S e h r = subst (Within L S) r h
  reads_of (choice n l y) S e h r = absurd r
  reads_of (sum n x t) S e h r = absurd r
  reads_of (action n a es x w t) S e h r = all_nth (Within L S) es r.0 e h.0 r.1
  reads_of (delay n c t) S e h r = subst (Within L S) r h

  weighs_of : (u : Tree) (S : Scope) (e : ℕ) → RootIn S u → Weighs u e → Weight S u e
  weighs_of (call n p es) S e h r = absurd r
  weighs_of (when n c t) S e h r = absurd r
  weighs_of (choice n l y) S e h r = absurd r
  weighs_of (sum n x t) S e h r = absurd r
  weighs_of (action n a es x w t) S e h r =
      let z = subst (Within L (adding x S)) r h.1 in
      (z.0, λ y k. ⊎_elim (λ i. inr (eqb-true x y i)) inl (or_cases (eqb x y) (S y) (z.1 y k)))
  weighs_of (delay n c t) S e h r = absurd r

  root_by : (u : Tree) (S : Scope) → ((e : ℕ) → Reads u e → Within L S e) → ((e : ℕ) → Weighs u e → Weight S u e) → RootIn S u
  root_by (call n p es) S h k = nth_all (Within L S) es (λ i e z. h e (i, z))
  root_by (when n c t) S h k = h c refl
  root_by (choice n l r) S h k = tt
  root_by (sum n x t) S h k = tt
  root_by (action n a es x w t) S h k =
      let z = k w refl in
      (nth_all (Within L S) es (λ i e q. h e (i, q)), (z.0, λ y q. ⊎_elim (λ i. or_right (eqb x y) (S y) i) (λ i. or_left (eqb x y) (S y) (eq-eqb x y i)) (z.1 y q)))
  root_by (delay n c t) S h k = h c refl

  module _ (m : Model) where
    known_to : (q : Process) {u : Tree} (s : Sub u q.body) (x : ℕ) → scope_down s (param q) x ≡ true → Known q s x
    known_to q s x h = ⊎_elim (λ z. inl (param_to q x z)) inr (down_to s (param q) x h)

    known_from : (q : Process) {u : Tree} (s : Sub u q.body) (x : ℕ) → Known q s x → scope_down s (param q) x ≡ true
    known_from q s x h = down_from s (param q) x (⊎_elim (λ z. inl (param_from q x z)) inr h)

    fits_suits : Fits L m → Suits L m
    fits_suits f = record {
      reads = λ p q at u s e r.
          let w = reads_of u (scope_down s (param q)) e (reach s (param q) (all_nth _ m.processes p q f at)) r in
          (w.0, λ x n. known_to q s x (w.1 x n));
      weighs = λ p q at u s e r.
          let w = weighs_of u (scope_down s (param q)) e (reach s (param q) (all_nth _ m.processes p q f at)) r in
          (w.0, λ x n. ⊎_elim (λ z. inl (known_to q s x z)) inr (w.1 x n));
    }

    suits_fits : Suits L m → Fits L m
    suits_fits f = nth_all _ m.processes (λ p q at. gather q.body (param q) (λ u s. root_by u (scope_down s (param q))
        (λ e r. let w = f.reads p q at u s e r in (w.0, λ x n. known_from q s x (w.1 x n)))
        (λ e r. let w = f.weighs p q at u s e r in (w.0, λ x n. ⊎_elim (λ z. inl (known_from q s x z)) inr (w.1 x n)))))

    pub in_words : Iff (Fits L m) (Suits L m)
    in_words = (fits_suits, suits_fits)
