-- Targets of vectors are vectors. Assumes nothing.
use Rattle.std.proofs.Common.{◌≡◌, ℕ, suc, ◌-◌, ◌<◌, ◌≤◌, min, Bool, true, false, cond, eqb, List, [], ◌∷◌, map, length, get_or, set, sum_by, sym, refl, ap, ◌∙◌, subst, ⊎_elim, arith, get_or-set_other, get_or-set_same}
use lib.Seq.{set_out}
use Rattle.std.specs.List.{flat_map, AllByRecursion}
use Rattle.std.proofs.ByRecursion.{All-weaker, All-map, All-append, All-get_or}
use Rattle.std.proofs.lemmas.Bool.{cases_eq, cases_lt}
use Rattle.language.specs.Meanings.{Meaning, Lawful}
use Rattle.model.specs.Trees.{Tree, call, when, choice, sum, action, delay}
use Rattle.source.specs.Models.{Model, Next, calls, rests, process, param, node, next, Term}
use Rattle.valuation.specs.Doings.{Does, acts, waits, outcomes, does}
use Rattle.valuation.specs.Transitions.{Outcome, move, wait}
use Rattle.valuation.specs.Valuations.{values_of, spread, all_hold, holds}
use Rattle.source.specs.Free.{free}
use Rattle.source.specs.Places.{places, below, rest, place, counter}
use Rattle.behaviour.specs.Ways.{Way, ways, numbered, all_ways}
use Rattle.linear.specs.declared.entry.Entry.{Entry}
use Rattle.linear.specs.declared.entry.Entry.TheVariants.{Reset, Keep, Take}
use Rattle.linear.specs.Equations.{Summand, Vector}
use Rattle.behaviour.specs.Linearised.{acts_in, rates_in, entries_of, leads_to, summand, summands_of, equation_of}
use Rattle.behaviour.specs.Vectors.{acting, entered, arrives, fires, transitions_by, transitions_in}
use Rattle.source.specs.Sound.{Sound, Calls}
use Rattle.behaviour.specs.Sets.{Shaped, InSet, To, InTerms}
use Rattle.behaviour.proofs.Once.{Fitted}
use Rattle.behaviour.proofs.Lands.{Lands, Found, way_does}
use Rattle.source.proofs.Mapped.{get_or_each}
use Rattle.behaviour.proofs.Kept.{good, Good, ways_land, all_joined, all_in_order, all_left, all_right, next_lands, here}
use Rattle.source.specs.Terms.{term, given, target, transitions}
use Rattle.source.proofs.Enumerate.{all_counting}
use Rattle.std.proofs.lemmas.List.FromFn.{length-map-range_with_len}

all_cond : {X : Type 0} (P : X → Type 0) (b : Bool) (xs : List X) → AllByRecursion P xs → AllByRecursion P (cond b xs [])
all_cond P true xs a = a
all_cond P false xs a = tt

module _ (L : Meaning) (m : Model) where
  abbrev Below : List ℕ → Type 0
  Below ρ = (x : ℕ) → x < length m.sizes → get_or ρ x 0 < get_or m.sizes x 0

  below_set : (ρ : List ℕ) (x d : ℕ) → d < get_or m.sizes x 0 → Below ρ → Below (set ρ x d)
  below_set ρ x d l b y i = ⊎_elim same (λ n. subst (λ v. v < get_or m.sizes y 0) (sym (get_or-set_other ρ x y d 0 n)) (b y i)) (cases_eq y x)
    where
      same : y ≡ x → get_or (set ρ x d) y 0 < get_or m.sizes y 0
      same e = ⊎_elim inside outside (cases_lt x (length ρ))
        where
          inside : x < length ρ → get_or (set ρ x d) y 0 < get_or m.sizes y 0
          inside j = rw e (subst (λ v. v < get_or m.sizes x 0) (sym (get_or-set_same ρ x d 0 j)) l)

          outside : length ρ ≤ x → get_or (set ρ x d) y 0 < get_or m.sizes y 0
          outside j = subst (λ (τ : List ℕ). get_or τ y 0 < get_or m.sizes y 0) (sym (set_out ρ x d j)) (b y i)

  all_values : (P : ℕ → Type 0) (x : ℕ) → ((d : ℕ) → d < get_or m.sizes x 0 → P d) → AllByRecursion P (values_of m.sizes x)
  all_values P x h = all_counting P 0 (get_or m.sizes x 0) (get_or m.sizes x 0) (omega arith) h

  spread_below : {X : Type 0} (P : X → Type 0) (xs : List ℕ) (k : List ℕ → List X) → ((τ : List ℕ) → Below τ → AllByRecursion P (k τ)) → (ρ : List ℕ) → Below ρ → AllByRecursion P (spread m.sizes xs k ρ)
  spread_below P [] k h ρ b = h ρ b
  spread_below P (x ∷ xs) k h ρ b = all_joined P (λ d. spread m.sizes xs k (set ρ x d)) (values_of m.sizes x) (all_values _ x (λ d l. spread_below P xs k h (set ρ x d) (below_set ρ x d l b)))

  does_below : {S : Type 0} (P : S → Type 0) (k : Does) (to : List ℕ → S) → ((τ : List ℕ) → Below τ → P (to τ)) → (ρ : List ℕ) → Below ρ → AllByRecursion (To P) (does L m.sizes k to ρ)
  does_below {S} P (acts a es x w) to h ρ b = go (eqb (sum_by (λ (o : Outcome S). o.weight) (outcomes L m.sizes x w to ρ)) 0)
    where
      go : (c : Bool) → AllByRecursion (To P) (cond c [] (move a (map (λ e. L.value e ρ) es) (outcomes L m.sizes x w to ρ) ∷ []))
      go true = tt
      go false = (All-map (λ (o : Outcome S). P o.to) _ (values_of m.sizes x) (all_values _ x (λ d l. h (set ρ x d) (below_set ρ x d l b))), tt)
  does_below P (waits r) to h ρ b = go (eqb (L.value r ρ) 0)
    where
      go : (c : Bool) → AllByRecursion (To P) (cond c [] (wait (L.value r ρ) (to ρ) ∷ []))
      go true = tt
      go false = (h ρ b, tt)

module _ (L : Meaning) (m : Model) (law : Lawful L) (fits : Fitted L m) (s : Sound m) where
  -- a vector that arrives at a next place that is found
  shaped : (n : Next) → Lands L m n → (τ : List ℕ) → Shaped m (arrives L m.sizes (leads_to L m n) τ)
  shaped (calls p es) l τ = (omega arith, l.1, length-map-range_with_len _ 0 (length m.sizes))
  shaped (rests t) l τ = (omega arith, l.1, length-map-range_with_len _ 0 (length m.sizes))

  enters : (e : Entry) (ρ : List ℕ) (x : ℕ) → x < length m.sizes → Below L m ρ → entered L m.sizes e ρ x < get_or m.sizes x 0
  enters Reset ρ x l b = s.sizes x l
  enters Keep ρ x l b = b x l
  enters (Take e) ρ x l b = let h = s.sizes x l in omega arith

  arrives_in : (n : Next) → Lands L m n → (τ : List ℕ) → Below L m τ → InSet m (arrives L m.sizes (leads_to L m n) τ)
  arrives_in n l τ b = (shaped n l τ, λ x i. subst (λ v. v < get_or m.sizes x 0) (sym (get_or_each m _ x 0 i)) (enters (get_or (entries_of L m n) x Reset) τ x i b))

  pub landing : (k : ℕ) (ts : List Tree) → AllByRecursion (Good L m law fits s (Found L m)) ts
      → AllByRecursion (λ (z : ℕ × Way). Lands L m z.1.then) (flat_map (λ (z : ℕ × Tree). map {B = ℕ × Way} (λ y. (z.0, y)) (ways z.1)) (numbered k ts))
  landing k [] a = tt
  landing k (t ∷ ts) a = All-append _ _ _ (All-map (λ (z : ℕ × Way). Lands L m z.1.then) (λ y. (k, y)) (ways t) (ways_land L m law fits s t a.0.1 a.0.3)) (landing (suc k) ts a.1)

  all_land : AllByRecursion (λ (z : ℕ × Way). Lands L m z.1.then) (all_ways m)
  all_land = all_in_order _ (λ (z : ℕ × Way). z.1.leaf) m.nodes _ (landing 1 (places m) (good L m law fits s))

  way_in : (y : Way) → Lands L m y.then → (ρ : List ℕ) → Below L m ρ → AllByRecursion (To (InSet m)) (way_does L m y y.doing ρ)
  way_in y l ρ b = spread_below L m _ y.sums _ (λ τ c. all_cond _ (all_hold L y.conditions τ) _ (does_below L m (InSet m) y.doing _ (arrives_in y.then l) τ c)) ρ b

  part : {D : Type 0} (doing : D → Does) (pick : Does → List D) → ((k : Does) → AllByRecursion (λ d. doing d ≡ k) (pick k)) → (v : Vector) → InSet m v
      → AllByRecursion (To (InSet m)) (transitions_by L m.sizes doing (summands_of L m pick (all_ways m)) v)
  part {D} doing pick picks v i =
      all_joined _ (λ (u : Summand D). cond (eqb u.when.counter v.counter) (fires L m.sizes doing u v.values) []) (summands_of L m pick (all_ways m))
      (All-weaker (λ (u : Summand D). AllByRecursion (To (InSet m)) (fires L m.sizes doing u v.values)) _ (λ u a. all_cond _ (eqb u.when.counter v.counter) (fires L m.sizes doing u v.values) a) (summands_of L m pick (all_ways m))
      (all_joined _ (λ (z : ℕ × Way). map (summand L m z) (pick z.1.doing)) (all_ways m)
      (All-weaker _ _ (λ z l. All-map _ (summand L m z) (pick z.1.doing) (All-weaker _ _ (λ d e. subst (λ k. AllByRecursion (To (InSet m)) (way_does L m z.1 k v.values)) (sym e) (way_in z.1 l v.values i.1)) (pick z.1.doing) (picks z.1.doing))) (all_ways m) all_land)))

  acts_picks : (k : Does) → AllByRecursion (λ d. acting d ≡ k) (acts_in k)
  acts_picks (acts a es x w) = (refl, tt)
  acts_picks (waits r) = tt

  rates_picks : (k : Does) → AllByRecursion (λ r. waits r ≡ k) (rates_in k)
  rates_picks (acts a es x w) = tt
  rates_picks (waits r) = (refl, tt)

  pub closes : (v : Vector) → InSet m v → AllByRecursion (To (InSet m)) (transitions_in L (equation_of L m) v)
  closes v i = All-append _ (transitions_by L m.sizes acting (summands_of L m acts_in (all_ways m)) v) _ (part acting acts_in acts_picks v i) (part waits rates_in rates_picks v i)

module _ (L : Meaning) (m : Model) (law : Lawful L) (fits : Fitted L m) (s : Sound m) where
  pub term_in : (t : Tree) (v : ℕ → ℕ) → Found L m t → ((x : ℕ) → x < length m.sizes → v x < get_or m.sizes x 0) → InTerms L m (term L m.sizes t v)
  term_in t v f b = (
    ap node f.0,
    f.1,
    length-map-range_with_len _ 0 (length m.sizes),
    (λ x l. subst (λ n. n < get_or m.sizes x 0) (sym (get_or_each m _ x 0 l)) (small x l (free L t x))),
    (λ x l e. get_or_each m _ x 0 l ∙ ap (λ b. cond b (v x) 0) (ap (λ u. free L u x) (sym f.0) ∙ e)),
  )
    where
      small : (x : ℕ) → x < length m.sizes → (c : Bool) → cond c (v x) 0 < get_or m.sizes x 0
      small x l true = b x l
      small x l false = s.sizes x l

  target_in : (n : Next) (ρ : List ℕ) → Lands L m n → Below L m ρ → InTerms L m (target L m n ρ)
  target_in (rests t) ρ f b = term_in t (λ x. get_or ρ x 0) f b
  target_in (calls p es) ρ f b = term_in (process m p).body (given L m p es ρ) f (λ x l. small x l (param (process m p) x))
    where
      small : (x : ℕ) → x < length m.sizes → (c : Bool) → cond c (min (L.value (get_or es (x - (process m p).first) 0) ρ) (get_or m.sizes x 0 - 1)) 0 < get_or m.sizes x 0
      small x l true = let h = s.sizes x l in omega arith
      small x l false = s.sizes x l

  transitions_in_lem : (t : Tree) (ρ : List ℕ) → Calls m t → AllByRecursion (Found L m) (below t) → Below L m ρ → AllByRecursion (To (InTerms L m)) (transitions L m t ρ)
  transitions_in_lem (call n p es) ρ k a b = tt
  transitions_in_lem (when n e t) ρ k a b = all_cond _ (holds L e ρ) (transitions L m t ρ) (transitions_in_lem t ρ k a b)
  transitions_in_lem (choice n l r) ρ k a b = All-append _ (transitions L m l ρ) (transitions L m r ρ) (transitions_in_lem l ρ k.0 (all_left _ (below l) (below r) a) b) (transitions_in_lem r ρ k.1 (all_right _ (below l) (below r) a) b)
  transitions_in_lem (sum n x t) ρ k a b = all_joined _ (λ d. transitions L m t (set ρ x d)) (values_of m.sizes x) (all_values L m _ x (λ d l. transitions_in_lem t (set ρ x d) k a (below_set L m ρ x d l b)))
  transitions_in_lem (action n c es x w t) ρ k a b = does_below L m (InTerms L m) (acts c es x w) (target L m (next t)) (λ τ i. target_in (next t) τ (next_lands L m law fits s t k (all_left _ (rest (next t)) (below t) a)) i) ρ b
  transitions_in_lem (delay n r t) ρ k a b = does_below L m (InTerms L m) (waits r) (target L m (next t)) (λ τ i. target_in (next t) τ (next_lands L m law fits s t k (all_left _ (rest (next t)) (below t) a)) i) ρ b

  pub terms_close : (t : Term) → InTerms L m t → AllByRecursion (To (InTerms L m)) (transitions L m (s.tree t.place) t.values)
  terms_close t i = subst (λ u. AllByRecursion (To (InTerms L m)) (transitions L m u t.values)) same (transitions_in_lem u t.values g.1 g.3 i.3)
    where
      u : Tree
      u = place m (counter m t.place)

      g : Good L m law fits s (Found L m) u
      g = All-get_or (Good L m law fits s (Found L m)) (places m) (counter m t.place - 1) (call 0 0 []) (omega (arith, i.1)) (good L m law fits s)

      same : u ≡ s.tree t.place
      same = sym (here L m law fits s u g.2).1 ∙ ap s.tree i.0
