-- A vector's transitions are derived by the term that it stands for, and those of the term are found at the vector. Assumes nothing.
use Rattle.std.proofs.Common.{◌≡◌, ℕ, zero, suc, ◌+◌, ◌<◌, ◌≤◌, Bool, true, false, cond, ◌⊎◌, List, [], ◌∷◌, get_or, sym, refl, ap, ◌∙◌, subst, ⊎_elim, arith}
use Rattle.std.specs.List.{AllByRecursion}
use Rattle.std.proofs.ByRecursion.{All-get_or}
use Rattle.language.specs.Meanings.{Meaning, Lawful}
use Rattle.valuation.specs.Transitions.{Transition}
use Rattle.valuation.specs.Valuations.{each}
use Rattle.linear.specs.Equations.{Vector}
use Rattle.model.specs.Trees.{Tree}
use Rattle.source.specs.Free.{free}
use Rattle.source.specs.Models.{Model, Term, node, process, no_process}
use Rattle.source.specs.Terms.{term, transitions, start_value, start_term}
use Rattle.source.specs.Sound.{Sound}
use Rattle.source.specs.Rules.{Rule, Derives, derived, same_rules}
use Rattle.source.specs.Published.{Derivation}
use Rattle.source.proofs.Totals.{total, sum_by_total, total_map}
use Rattle.source.proofs.Mapped.{each_same, get_or_each}
use Rattle.source.proofs.Enumerate.{listed, derive, enumerates}
use Rattle.source.proofs.InWords.{to, fro}
use Rattle.behaviour.specs.Linearised.{start_vector, equation_of, stands, standing, transition_to}
use Rattle.behaviour.specs.Vectors.{transitions_in}
use Rattle.behaviour.specs.Sets.{Shaped}
use Rattle.behaviour.proofs.Once.{Fitted}
use Rattle.behaviour.proofs.Alike.{same_transition, transition_true, transition_refl}
use Rattle.behaviour.proofs.Lands.{Found}
use Rattle.behaviour.proofs.Kept.{kept, bodies_found}

abbrev pub In : {X : Type 0} → X → List X → Type 0
In x [] = ⊥
In x (y ∷ ys) = (y ≡ x) ⊎ In x ys

pub in_all : {X : Type 0} (P : X → Type 0) (xs : List X) (x : X) → In x xs → AllByRecursion P xs → P x
in_all P [] x i a = absurd i
in_all P (y ∷ ys) x i a = ⊎_elim (λ e. subst P e a.0) (λ j. in_all P ys x j a.1) i

in_total : {X : Type 0} (f : X → ℕ) (xs : List X) (x : X) → In x xs → f x ≤ total f xs
in_total f [] x i = absurd i
in_total f (y ∷ ys) x i = ⊎_elim (λ e. let q = ap f e in omega arith) (λ j. let q = in_total f ys x j in omega arith) i

positive : {X : Type 0} (P : X → Type 0) (f : X → ℕ) (xs : List X) → AllByRecursion P xs → 0 < total f xs → (x : X) × P x × (0 < f x)
positive P f [] a h = absurd (omega arith)
positive P f (y ∷ ys) a h = go (f y) refl (λ k. positive P f ys a.1 k)
  where
    go : (n : ℕ) → f y ≡ n → (0 < total f ys → (x : _) × P x × (0 < f x)) → (x : _) × P x × (0 < f x)
    go zero e r = r (omega arith)
    go (suc n) e r = (y, a.0, omega arith)

at_least : {X : Type 0} (f : X → ℕ) (b : X → Bool) (xs : List X) → total (λ x. cond (b x) (f x) 0) xs ≤ total f xs
at_least f b [] = omega arith
at_least f b (x ∷ xs) = go (b x) (at_least f b xs)
  where
    go : (c : Bool) → total (λ x. cond (b x) (f x) 0) xs ≤ total f xs → cond c (f x) 0 + total (λ x. cond (b x) (f x) 0) xs ≤ f x + total f xs
    go true h = omega arith
    go false h = omega arith

pub hit : (b : Bool) → 0 < cond b 1 0 → b ≡ true
hit true h = refl
hit false h = absurd (omega arith)

module _ (L : Meaning) (m : Model) (law : Lawful L) (fits : Fitted L m) (s : Sound m) where
  pub start_found : Found L m (process m m.begins).body
  start_found = All-get_or (λ q. Found L m q.body) m.processes m.begins no_process s.starts (bodies_found L m law fits s)

  pub start_stands : stands L m (start_vector m) ≡ start_term L m
  start_stands =
      ap (λ u. term L m.sizes u (λ x. get_or (each m.sizes (start_value m)) x 0)) start_found.0
      ∙ ap (λ (vs : List ℕ). record { place = node (process m m.begins).body; values = vs })
      (each_same m _ _ (λ x l. ap (λ n. cond (free L (process m m.begins).body x) n 0) (get_or_each m (start_value m) x 0 l)))

  -- a transition of a vector is derived by the term that it stands for
  pub transfer : (v : Vector) → Shaped m v → (u : Transition Vector) → In u (transitions_in L (equation_of L m) v)
      → (D : List Rule) × Derivation L m (s.tree (stands L m v).place) (stands L m v).values D (transition_to (stands L m) u)
  transfer v i u j =
      let z = positive (λ z. Derives L m t ρ z.by z.gives) (λ z. f z.gives) (derived L m t ρ) (derive L m t ρ) some_one in
      (z.0.by, to L m (subst (λ x. Derives L m t ρ z.0.by x) (sym (transition_true (transition_to (stands L m) u) z.0.gives (hit (same_transition (transition_to (stands L m) u) z.0.gives) z.2))) z.1))
    where
      t : Tree
      t = s.tree (stands L m v).place

      ρ : List ℕ
      ρ = (stands L m v).values

      f : Transition Term → ℕ
      f x = cond (same_transition (transition_to (stands L m) u) x) 1 0

      some_one : 0 < total (λ z. f z.gives) (derived L m t ρ)
      some_one =
          let a : total f (transitions L m t ρ) ≡ total f (standing L m v) = kept L m law fits s f v i in
          let b : total f (standing L m v) ≡ total (λ x. f (transition_to (stands L m) x)) (transitions_in L (equation_of L m) v) = total_map f (transition_to (stands L m)) (transitions_in L (equation_of L m) v) in
          let c : f (transition_to (stands L m) u) ≤ total (λ x. f (transition_to (stands L m) x)) (transitions_in L (equation_of L m) v) = in_total (λ x. f (transition_to (stands L m) x)) (transitions_in L (equation_of L m) v) u j in
          let d : f (transition_to (stands L m) u) ≡ 1 = ap (λ b. cond b 1 0) (transition_refl (transition_to (stands L m) u)) in
          let e : total f (transitions L m t ρ) ≡ total (λ z. f z.gives) (derived L m t ρ) = ap (total f) (listed L m t ρ) ∙ total_map f (λ z. z.gives) (derived L m t ρ) in
          omega arith

  -- what the term derives, the vector has
  pub finds : (z : Transition Term) (D : List Rule) (v : Vector) → Shaped m v → Derivation L m (s.tree (stands L m v).place) (stands L m v).values D z
      → 0 < total (λ y. cond (same_transition z (transition_to (stands L m) y)) 1 0) (transitions_in L (equation_of L m) v)
  finds z D v i d =
      let a : total (λ y. cond (same_rules D y.by) (g y.gives) 0) (derived L m t ρ) ≡ g z = sym (sum_by_total _ (derived L m t ρ)) ∙ (enumerates L m t ρ).once D z (fro L m d) g in
      let b : g z ≡ 1 = ap (λ b. cond b 1 0) (transition_refl z) in
      let c : total (λ y. cond (same_rules D y.by) (g y.gives) 0) (derived L m t ρ) ≤ total (λ y. g y.gives) (derived L m t ρ) = at_least (λ y. g y.gives) (λ y. same_rules D y.by) (derived L m t ρ) in
      let e : total g (transitions L m t ρ) ≡ total (λ y. g y.gives) (derived L m t ρ) = ap (total g) (listed L m t ρ) ∙ total_map g (λ y. y.gives) (derived L m t ρ) in
      let k : total g (transitions L m t ρ) ≡ total g (standing L m v) = kept L m law fits s g v i in
      let l : total g (standing L m v) ≡ total (λ y. g (transition_to (stands L m) y)) (transitions_in L (equation_of L m) v) = total_map g (transition_to (stands L m)) (transitions_in L (equation_of L m) v) in
      omega arith
    where
      t : Tree
      t = s.tree (stands L m v).place

      ρ : List ℕ
      ρ = (stands L m v).values

      g : Transition Term → ℕ
      g x = cond (same_transition z x) 1 0
