-- A summand's transitions are its way's: the target vectors stand for the target terms. Assumes nothing.
use Rattle.std.proofs.Common.{◌≡◌, ℕ, ◌+◌, ◌-◌, ◌<◌, ◌≤◌, Bool, true, false, cond, eqb, List, [], ◌∷◌, map, length, get_or, set, fold, sum_by, sym, refl, ap, ◌∙◌}
use mathlib.Core.Path.{fun_ext}
use Rattle.std.specs.List.{flat_map}
use Rattle.language.specs.Meanings.{Meaning, Lawful}
use Rattle.model.specs.Trees.{Tree}
use Rattle.source.specs.Models.{node, Model, Next, calls, rests, Term, process, param}
use Rattle.valuation.specs.Doings.{Does, acts, waits, outcomes, does}
use Rattle.valuation.specs.Transitions.{Outcome, Transition, move, wait}
use Rattle.valuation.specs.Valuations.{values_of, cut, spread, all_hold}
use Rattle.source.specs.Free.{free}
use Rattle.source.specs.Terms.{term, given, target}
use Rattle.behaviour.specs.Ways.{Way}
use Rattle.linear.specs.declared.entry.Entry.TheVariants.{Reset, Keep, Take}
use Rattle.linear.specs.Equations.{Vector}
use Rattle.behaviour.specs.Linearised.{entries_of, leads_to, stands, outcome_to, transition_to}
use Rattle.behaviour.specs.Vectors.{entered, arrives}
use Rattle.source.specs.Places.{place, counter, places}
use Rattle.behaviour.proofs.Expands.{along}
use Rattle.source.proofs.Mapped.{each_same, get_or_each, map_map, map_joined}

weights_kept : {S R : Type 0} (f : S → R) (os : List (Outcome S)) (n : ℕ) → fold (λ a o. a + o.weight) n (map (outcome_to f) os) ≡ fold (λ a o. a + o.weight) n os
weights_kept f [] n = refl
weights_kept f (o ∷ os) n = weights_kept f os (n + o.weight)

module _ (L : Meaning) (m : Model) where
  -- A next place is found again by its program counter.
  abbrev pub Found : Tree → Type 0
  Found t = (place m (counter m (node t)) ≡ t) × (counter m (node t) ≤ length (places m))

  abbrev pub Lands : Next → Type 0
  Lands (calls p es) = Found (process m p).body
  Lands (rests t) = Found t

  lands : (n : Next) (ρ : List ℕ) → Lands n → stands L m (arrives L m.sizes (leads_to L m n) ρ) ≡ target L m n ρ
  lands (calls p es) ρ e = ap (λ t. term L m.sizes t (λ x. get_or (arrives L m.sizes (leads_to L m (calls p es)) ρ).values x 0)) e.0 ∙
      ap (λ (vs : List ℕ). record { place = node (process m p).body; values = vs }) (each_same m _ _ (λ x l. go x l (free L (process m p).body x) (param (process m p) x) refl))
    where
      go : (x : ℕ) → x < length m.sizes → (b c : Bool) → param (process m p) x ≡ c → cond b (get_or (arrives L m.sizes (leads_to L m (calls p es)) ρ).values x 0) 0 ≡ cond b (given L m p es ρ x) 0
      go x l false c q = refl
      go x l true c q =
          get_or_each m (λ x. entered L m.sizes (get_or (entries_of L m (calls p es)) x Reset) ρ x) x 0 l
          ∙ ap (λ n. entered L m.sizes n ρ x) (get_or_each m (λ x. cond (param (process m p) x) (Take (get_or es (x - (process m p).first) 0)) Reset) x Reset l)
          ∙ pick (param (process m p) x)
        where
          pick : (b : Bool) → entered L m.sizes (cond b (Take (get_or es (x - (process m p).first) 0)) Reset) ρ x ≡ cond b (cut m.sizes x (L.value (get_or es (x - (process m p).first) 0) ρ)) 0
          pick true = refl
          pick false = refl
  lands (rests t) ρ e = ap (λ u. term L m.sizes u (λ x. get_or (arrives L m.sizes (leads_to L m (rests t)) ρ).values x 0)) e.0 ∙
      ap (λ (vs : List ℕ). record { place = node t; values = vs }) (each_same m _ _ (λ x l. go x l (free L t x) refl))
    where
      go : (x : ℕ) → x < length m.sizes → (b : Bool) → free L t x ≡ b → cond b (get_or (arrives L m.sizes (leads_to L m (rests t)) ρ).values x 0) 0 ≡ cond b (get_or ρ x 0) 0
      go x l false q = refl
      go x l true q =
          get_or_each m (λ x. entered L m.sizes (get_or (entries_of L m (rests t)) x Reset) ρ x) x 0 l
          ∙ ap (λ n. entered L m.sizes n ρ x) (get_or_each m (λ x. cond (free L t x) Keep Reset) x Reset l ∙ ap (λ b. cond b Keep Reset) q)

  does_to : {S R : Type 0} (f : S → R) (k : Does) (to : List ℕ → S) (ρ : List ℕ) → map (transition_to f) (does L m.sizes k to ρ) ≡ does L m.sizes k (λ τ. f (to τ)) ρ
  does_to {S} {R} f (waits r) to ρ = go (eqb (L.value r ρ) 0)
    where
      go : (b : Bool) → map (transition_to f) (cond b [] (wait (L.value r ρ) (to ρ) ∷ [])) ≡ cond b [] (wait (L.value r ρ) (f (to ρ)) ∷ [])
      go true = refl
      go false = refl
  does_to {S} {R} f (acts a es x w) to ρ =
      go (outcomes L m.sizes x w to ρ) (eqb (sum_by (λ o. o.weight) (outcomes L m.sizes x w to ρ)) 0)
      ∙ ap (λ n. cond (eqb n 0) [] (move a (map (λ e. L.value e ρ) es) (map (outcome_to f) (outcomes L m.sizes x w to ρ)) ∷ [])) (sym (weights_kept f (outcomes L m.sizes x w to ρ) 0))
      ∙ ap (λ (os : List (Outcome R)). cond (eqb (sum_by (λ o. o.weight) os) 0) [] (move a (map (λ e. L.value e ρ) es) os ∷ [])) (map_map (outcome_to f) _ (values_of m.sizes x))
    where
      go : (os : List (Outcome S)) (b : Bool) → map (transition_to f) (cond b [] (move a (map (λ e. L.value e ρ) es) os ∷ [])) ≡ cond b [] (move a (map (λ e. L.value e ρ) es) (map (outcome_to f) os) ∷ [])
      go os true = refl
      go os false = refl

  map_spread : {X Y : Type 0} (f : X → Y) (xs : List ℕ) (k : List ℕ → List X) (ρ : List ℕ) → map f (spread m.sizes xs k ρ) ≡ spread m.sizes xs (λ τ. map f (k τ)) ρ
  map_spread f [] k ρ = refl
  map_spread {X} {Y} f (x ∷ xs) k ρ = map_joined f (λ d. spread m.sizes xs k (set ρ x d)) (values_of m.sizes x) ∙ ap (λ (g : ℕ → List Y). flat_map g (values_of m.sizes x)) (fun_ext (λ d. map_spread f xs k (set ρ x d)))

  -- a way's transitions between vectors, where it does k
  abbrev pub way_does : Way → Does → List ℕ → List (Transition Vector)
  way_does y k = spread m.sizes y.sums (λ τ. cond (all_hold L y.conditions τ) (does L m.sizes k (arrives L m.sizes (leads_to L m y.then)) τ) [])

  pub fires_along : (y : Way) (ρ : List ℕ) → (law : Lawful L) → Lands y.then → map (transition_to (stands L m)) (way_does y y.doing ρ) ≡ along L law m y ρ
  fires_along y ρ law e =
      map_spread (transition_to (stands L m)) y.sums _ ρ
      ∙ ap (λ (k : List ℕ → List (Transition Term)). spread m.sizes y.sums k ρ) (fun_ext (λ τ. go τ (all_hold L y.conditions τ)))
    where
      go : (τ : List ℕ) (b : Bool) → map (transition_to (stands L m)) (cond b (does L m.sizes y.doing (arrives L m.sizes (leads_to L m y.then)) τ) []) ≡ cond b (does L m.sizes y.doing (target L m y.then) τ) []
      go τ false = refl
      go τ true = does_to (stands L m) y.doing _ τ ∙ ap (λ (to : List ℕ → Term). does L m.sizes y.doing to τ) (fun_ext (λ υ. lands y.then υ e))
