-- Over two sides that answer by the transitions of vectors and terms, the equation behaves as the model. Assumes nothing.
use Rattle.std.proofs.Common.{◌≡◌, ℕ, zero, suc, ◌+◌, ◌-◌, ◌<◌, ◌≤◌, Bool, true, false, cond, ◌&&◌, eqb, List, [], ◌∷◌, map, length, get_or, Some, None, sum_by, Option, sym, refl, ap, ◌∙◌, subst, ap₂, inl, inr, arith}
use Rattle.std.specs.List.{slice_get}
use Rattle.std.proofs.ByRecursion.{All-get_or}
use Rattle.std.proofs.lemmas.Bool.{eqb-true, and_parts}
use Rattle.language.specs.Meanings.{Meaning, Lawful}
use Rattle.valuation.specs.Transitions.{Outcome, Transition, move, wait}
use Rattle.linear.specs.Equations.{Vector}
use Rattle.system.specs.Systems as system
use Rattle.system.specs.Systems.{Move, Delay}
use Rattle.system.specs.Questions.{label_of, rate}
use Rattle.system.specs.Walks.{trail, played}
use Rattle.system.specs.Reaching as reaching
use Rattle.system.specs.declared.answers.Call.{Call}
use Rattle.system.specs.declared.answers.Step.{Step}
use Rattle.system.specs.declared.answers.Step.TheVariants.{Acted, Waited}
use Rattle.system.proofs.Reachings.{run_walks}
use Rattle.system.proofs.WalkLaws.{reached_member, walk_rules}
use Rattle.model.specs.Trees.{call}
use Rattle.source.specs.Models.{Model, Term, process}
use Rattle.source.specs.Terms.{start_value}
use Rattle.source.specs.Places.{places, place}
use Rattle.source.specs.Sound.{Sound}
use Rattle.source.specs.Rules.{same_list}
use Rattle.source.specs.Published.{AtParams, IsTerm, Derivation}
use Rattle.source.proofs.Totals.{total, sum_by_total, total_joined}
use Rattle.source.proofs.InWords.{is_term_lem, at_params, starts}
use Rattle.behaviour.specs.Linearised.{equation_of, stands, standing, outcome_to, transition_to, term_transitions}
use Rattle.behaviour.specs.Vectors.{transitions_in}
use Rattle.behaviour.specs.Sets.{InSet, InTerms}
use Rattle.behaviour.specs.Lists as lists
use Rattle.behaviour.specs.Lists.{outcome_as, move_as, delay_as, moves_as, delays_as, move_to, delay_to}
use Rattle.behaviour.specs.Sides.{vector_words, vector_of, term_words, stands_for, LinearAnswers, SourceAnswers}
use Rattle.behaviour.specs.Reached.{Reached, begin, delayed, moved}
use Rattle.behaviour.specs.Behaves.{Behaves}
use Rattle.behaviour.specs.Claims.{BehavesOverSides}
use Rattle.behaviour.proofs.Once.{Fitted, fitted}
use Rattle.behaviour.proofs.Alike.{same_transition, same_outcome, same_term, list_true, term_true, outcome_true}
use Rattle.behaviour.proofs.Lands.{Found}
use Rattle.behaviour.proofs.Kept.{kept, found_again}
use Rattle.behaviour.proofs.Closes.{term_in}
use Rattle.behaviour.proofs.Follow.{In, transfer, finds, start_stands}

is_none : {X : Type 0} → Option X → Type 0
is_none None = Unit {0}
is_none (Some x) = ⊥

no_some : {X : Type 0} (x : X) → None ≡ Some x → ⊥
unfolding is_none
no_some x e = subst is_none e tt

nth_map : {X Z : Type 0} (f : X → Z) (xs : List X) (k : ℕ) (x : X) → slice_get xs k ≡ Some x → slice_get (map f xs) k ≡ Some (f x)
nth_map f [] k x e = absurd (no_some x e)
nth_map f (y ∷ ys) zero x e = let q : y ≡ x = cc in ap {B = Option _} (λ z. Some (f z)) q
nth_map f (y ∷ ys) (suc k) x e = nth_map f ys k x e

nth_mapped : {X Z : Type 0} (f : X → Z) (xs : List X) (k : ℕ) (z : Z) → slice_get (map f xs) k ≡ Some z → (x : X) × (slice_get xs k ≡ Some x) × (f x ≡ z)
nth_mapped f [] k z e = absurd (no_some z e)
nth_mapped f (y ∷ ys) zero z e = (y, refl, cc)
nth_mapped f (y ∷ ys) (suc k) z e = nth_mapped f ys k z e

-- a move, and a delay, of the list in words comes from a transition
moves_in : (ts : List (Transition Vector)) (k : ℕ) (v : Move) → slice_get (moves_as vector_words ts) k ≡ Some v
    → (a : ℕ) × (args : List ℕ) × (outs : List (Outcome Vector)) × In (move a args outs) ts × (◌≡◌ {A = Move} (record { action = a; arguments = args; outcomes = map (outcome_as vector_words) outs }) v)
moves_in [] k v e = absurd (no_some v e)
moves_in (wait r w ∷ ts) k v e = let z = moves_in ts k v e in (z.0, z.1, z.2, inr z.3, z.4)
moves_in (move a args outs ∷ ts) zero v e = (a, args, outs, inl refl, cc)
moves_in (move a args outs ∷ ts) (suc k) v e = let z = moves_in ts k v e in (z.0, z.1, z.2, inr z.3, z.4)

delays_in_lem : (ts : List (Transition Vector)) (k : ℕ) (d : Delay) → slice_get (delays_as vector_words ts) k ≡ Some d
    → (r : ℕ) × (w : Vector) × In (wait r w) ts × (◌≡◌ {A = Delay} (record { rate = r; target = vector_words w }) d)
delays_in_lem [] k d e = absurd (no_some d e)
delays_in_lem (move a args outs ∷ ts) k d e = let z = delays_in_lem ts k d e in (z.0, z.1, inr z.2, z.3)
delays_in_lem (wait r w ∷ ts) zero d e = (r, w, inl refl, cc)
delays_in_lem (wait r w ∷ ts) (suc k) d e = let z = delays_in_lem ts k d e in (z.0, z.1, inr z.2, z.3)

module _ (L : Meaning) (m : Model) where
  abbrev W : List ℕ → List ℕ
  W y = term_words (stands_for L m y)

  outs_same : (outs : List (Outcome Vector)) → map (lists.outcome_to W) (map (outcome_as vector_words) outs) ≡ map (outcome_as term_words) (map (outcome_to (stands L m)) outs)
  outs_same [] = refl
  outs_same (o ∷ os) = ap {B = List system.Outcome} (λ r. record { weight = o.weight; target = term_words (stands L m o.to) } ∷ r) (outs_same os)

  pub moves_same : (ts : List (Transition Vector)) → map (move_to W) (moves_as vector_words ts) ≡ moves_as term_words (map (transition_to (stands L m)) ts)
  moves_same [] = refl
  moves_same (move a args outs ∷ ts) = ap₂ {C = List Move} (λ os r. record { action = a; arguments = args; outcomes = os } ∷ r) (outs_same outs) (moves_same ts)
  moves_same (wait r v ∷ ts) = moves_same ts

  pub delays_same : (ts : List (Transition Vector)) → map (delay_to W) (delays_as vector_words ts) ≡ delays_as term_words (map (transition_to (stands L m)) ts)
  delays_same [] = refl
  delays_same (move a args outs ∷ ts) = delays_same ts
  delays_same (wait r v ∷ ts) = ap {B = List Delay} (λ q. record { rate = r; target = term_words (stands L m v) } ∷ q) (delays_same ts)

  -- a transition that is there has a number among the delays, or among the moves
  delay_at : (r : ℕ) (t : Term) (ts : List (Transition Vector)) → 0 < total (λ y. cond (same_transition (wait r t) (transition_to (stands L m) y)) 1 0) ts
      → (k : ℕ) × (w : Vector) × (slice_get (delays_as vector_words ts) k ≡ Some (record { rate = r; target = vector_words w })) × (stands L m w ≡ t)
  delay_at r t [] h = absurd (omega arith)
  delay_at r t (move a args outs ∷ ts) h = delay_at r t ts (omega arith)
  delay_at r t (wait q w ∷ ts) h = go (eqb r q && same_term t (stands L m w)) refl (λ l. delay_at r t ts l)
    where
      go : (c : Bool) → (eqb r q && same_term t (stands L m w)) ≡ c
          → (0 < total (λ y. cond (same_transition (wait r t) (transition_to (stands L m) y)) 1 0) ts → (k : ℕ) × (w : Vector) × (slice_get (delays_as vector_words ts) k ≡ Some (record { rate = r; target = vector_words w })) × (stands L m w ≡ t))
          → (k : ℕ) × (u : Vector) × (slice_get (record { rate = q; target = vector_words w } ∷ delays_as vector_words ts) k ≡ Some (record { rate = r; target = vector_words u })) × (stands L m u ≡ t)
      go true e f =
          let p = and_parts (eqb r q) (same_term t (stands L m w)) e in
          (0, w, ap {B = Option Delay} (λ c. Some (record { rate = c; target = vector_words w })) (sym (eqb-true r q p.0)), sym (term_true t (stands L m w) p.1))
      go false e f =
          let k : 0 < cond false 1 0 + total (λ y. cond (same_transition (wait r t) (transition_to (stands L m) y)) 1 0) ts = rw e at h in
          let z = f (omega arith) in (suc z.0, z.1, z.2, z.3)

  move_at : (a : ℕ) (args : List ℕ) (outs : List (Outcome Term)) (ts : List (Transition Vector)) → 0 < total (λ y. cond (same_transition (move a args outs) (transition_to (stands L m) y)) 1 0) ts
      → (k : ℕ) × (puts : List (Outcome Vector)) × (slice_get (moves_as vector_words ts) k ≡ Some (record { action = a; arguments = args; outcomes = map (outcome_as vector_words) puts })) × (outs ≡ map (outcome_to (stands L m)) puts)
  move_at a args outs [] h = absurd (omega arith)
  move_at a args outs (wait r w ∷ ts) h = move_at a args outs ts (omega arith)
  move_at a args outs (move b brgs puts ∷ ts) h = go (eqb a b && (same_list eqb args brgs && same_list same_outcome outs (map (outcome_to (stands L m)) puts))) refl (λ l. move_at a args outs ts l)
    where
      go : (c : Bool) → (eqb a b && (same_list eqb args brgs && same_list same_outcome outs (map (outcome_to (stands L m)) puts))) ≡ c
          → (0 < total (λ y. cond (same_transition (move a args outs) (transition_to (stands L m) y)) 1 0) ts → (k : ℕ) × (puts : List (Outcome Vector)) × (slice_get (moves_as vector_words ts) k ≡ Some (record { action = a; arguments = args; outcomes = map (outcome_as vector_words) puts })) × (outs ≡ map (outcome_to (stands L m)) puts))
          → (k : ℕ) × (qs : List (Outcome Vector)) × (slice_get (record { action = b; arguments = brgs; outcomes = map (outcome_as vector_words) puts } ∷ moves_as vector_words ts) k ≡ Some (record { action = a; arguments = args; outcomes = map (outcome_as vector_words) qs })) × (outs ≡ map (outcome_to (stands L m)) qs)
      go true e f =
          let p = and_parts (eqb a b) (same_list eqb args brgs && same_list same_outcome outs (map (outcome_to (stands L m)) puts)) e in
          let q = and_parts (same_list eqb args brgs) (same_list same_outcome outs (map (outcome_to (stands L m)) puts)) p.1 in (
            0,
            puts,
            ap₂ {C = Option Move} (λ c cs. Some (record { action = c; arguments = cs; outcomes = map (outcome_as vector_words) puts })) (sym (eqb-true a b p.0)) (sym (list_true eqb eqb-true args brgs q.0)),
            list_true same_outcome outcome_true outs (map (outcome_to (stands L m)) puts) q.1,
          )
      go false e f =
          let k : 0 < cond false 1 0 + total (λ y. cond (same_transition (move a args outs) (transition_to (stands L m) y)) 1 0) ts = rw e at h in
          let z = f (omega arith) in (suc z.0, z.1, z.2, z.3)

module _ (L : Meaning) (m : Model) (law : Lawful L) (fits : Fitted L m) (s : Sound m)
    (linear : system.Meaning) (delays : List ℕ → List Delay) (ans : LinearAnswers L m linear delays) where
  follows : {ts : List Step} {x : List ℕ} → reaching.Reached linear delays ts x → Reached L m s.tree ts (stands_for L m x)
  follows reaching.none =
      subst (λ y. Reached L m s.tree [] (stands_for L m y)) (sym ans.starts)
      (begin (subst (IsTerm L m (process m m.begins).body (AtParams (process m m.begins) (λ i v. v ≡ get_or m.values i 0))) (sym (start_stands L m law fits s)) (starts L m)))
  follows (reaching.acted {ts} {x} k n v o r km kn pos) =
      let mem = reached_member linear delays ans.sound ans.waits ts x r in
      let z = moves_in (transitions_in L (equation_of L m) (vector_of x)) k v (subst (λ ms. slice_get ms k ≡ Some v) (ans.moves x mem) km) in
      let y = nth_mapped (outcome_as vector_words) z.2 n o (subst (λ (u : Move). slice_get u.outcomes n ≡ Some o) (sym z.4) kn) in
      let d = transfer L m law fits s (vector_of x) (ans.member x mem).0 (move z.0 z.1 z.2) z.3 in
      subst (λ (u : Move). Reached L m s.tree (Acted (label_of u) n ∷ ts) (stands_for L m o.target)) z.4
      (subst (λ (q : system.Outcome). Reached L m s.tree (Acted (label_of (record { action = z.0; arguments = z.1; outcomes = map (outcome_as vector_words) z.2 })) n ∷ ts) (stands_for L m q.target)) y.2
      (moved (follows r) d.1 (nth_map (outcome_to (stands L m)) z.2 n y.0 y.1) (subst (λ (q : system.Outcome). 0 < q.weight) (sym y.2) pos)))
  follows (reaching.waited {ts} {x} k d r kd) =
      let mem = reached_member linear delays ans.sound ans.waits ts x r in
      let z = delays_in_lem (transitions_in L (equation_of L m) (vector_of x)) k d (subst (λ ds. slice_get ds k ≡ Some d) (ans.delays x mem) kd) in
      let g = transfer L m law fits s (vector_of x) (ans.member x mem).0 (wait z.0 z.1) z.2 in
      subst (λ (q : Delay). Reached L m s.tree (Waited (rate q.rate) ∷ ts) (stands_for L m q.target)) z.3 (delayed (follows r) g.1)

  comes : {ts : List Step} {t : Term} → Reached L m s.tree ts t → (x : List ℕ) × reaching.Reached linear delays ts x × (stands_for L m x ≡ t)
  comes (begin {s = u} i) = (
    linear.start,
    reaching.none,
    ap (stands_for L m) ans.starts ∙ start_stands L m law fits s
        ∙ sym (is_term_lem L m (process m m.begins).body _ (start_value m) (λ x n k. at_params (process m m.begins) _ (λ i. get_or m.values i 0) (λ i n e. e) x n k) u i),
  )
  comes (delayed {h} {t} {D} {r} c d) =
      let ih = comes c in
      let x = ih.0 in
      let mem = reached_member linear delays ans.sound ans.waits h x ih.1 in
      let z = delay_at L m r t (transitions_in L (equation_of L m) (vector_of x)) (finds L m law fits s (wait r t) D (vector_of x) (ans.member x mem).0 (subst (λ y. Derivation L m (s.tree y.place) y.values D (wait r t)) (sym ih.2) d)) in
      (vector_words z.1, reaching.waited z.0 (record { rate = r; target = vector_words z.1 }) ih.1 (subst (λ ds. slice_get ds z.0 ≡ Some (record { rate = r; target = vector_words z.1 })) (sym (ans.delays x mem)) z.2), z.3)
  comes (moved {h} {o} {D} {a} {args} {outs} {n} c d e pos) =
      let ih = comes c in
      let x = ih.0 in
      let mem = reached_member linear delays ans.sound ans.waits h x ih.1 in
      let z = move_at L m a args outs (transitions_in L (equation_of L m) (vector_of x)) (finds L m law fits s (move a args outs) D (vector_of x) (ans.member x mem).0 (subst (λ y. Derivation L m (s.tree y.place) y.values D (move a args outs)) (sym ih.2) d)) in
      let y = nth_mapped (outcome_to (stands L m)) z.1 n o (subst (λ os. slice_get os n ≡ Some o) z.3 e) in (
        vector_words y.0.to,
        reaching.acted z.0 n (record { action = a; arguments = args; outcomes = map (outcome_as vector_words) z.1 }) (outcome_as vector_words y.0) ih.1
            (subst (λ ms. slice_get ms z.0 ≡ Some (record { action = a; arguments = args; outcomes = map (outcome_as vector_words) z.1 })) (sym (ans.moves x mem)) z.2)
            (nth_map (outcome_as vector_words) z.1 n y.0 y.1) (subst (λ (q : Outcome Term). 0 < q.weight) (sym y.2) pos),
        ap (λ (q : Outcome Term). q.to) y.2,
      )

  reaches : (ts : List Step) (t : Term) → Reached L m s.tree ts t → length ts ≤ 64
      → (calls : List Call) × (trail (played linear delays calls).past ≡ ts) × (stands_for L m (played linear delays calls).here ≡ t)
  reaches ts t r l =
      let z = comes r in
      let c = (walk_rules linear delays ans.sound ans.waits).covers ts z.0 z.1 l in
      (c.0, c.1, ap (stands_for L m) c.2 ∙ z.2)

  stands_in : (v : Vector) → InSet m v → InTerms L m (stands L m v)
  stands_in v i =
      term_in L m law fits s (place m v.counter) (λ x. get_or v.values x 0)
      (All-get_or (Found L m) (places m) (v.counter - 1) (call 0 0 []) (omega (arith, i.0.0, i.0.1)) (found_again L m law fits s)) i.1

  module _ (source : system.Meaning) (waits : List ℕ → List Delay) (src : SourceAnswers L m s.tree source waits) where
    all_moves_lem : (x : List ℕ) → linear.member x ≡ true → (f : Move → ℕ) → sum_by f (map (move_to (W L m)) (linear.moves x)) ≡ sum_by f (source.moves (term_words (stands_for L m x)))
    all_moves_lem x mem f =
        let v = vector_of x in
        let i = ans.member x mem in
        ap (λ ms. sum_by f (map (move_to (W L m)) ms)) (ans.moves x mem)
        ∙ ap (sum_by f) (moves_same L m (transitions_in L (equation_of L m) v))
        ∙ sum_by_total f (moves_as term_words (standing L m v))
        ∙ total_joined f (move_as term_words) (standing L m v)
        ∙ sym (kept L m law fits s (λ u. total f (move_as term_words u)) v i.0)
        ∙ sym (total_joined f (move_as term_words) (term_transitions L m s.tree (stands L m v)))
        ∙ sym (sum_by_total f (moves_as term_words (term_transitions L m s.tree (stands L m v))))
        ∙ ap (sum_by f) (sym (src.moves (stands L m v) (stands_in v i)))

    all_delays_lem : (x : List ℕ) → linear.member x ≡ true → (f : Delay → ℕ) → sum_by f (map (delay_to (W L m)) (delays x)) ≡ sum_by f (waits (term_words (stands_for L m x)))
    all_delays_lem x mem f =
        let v = vector_of x in
        let i = ans.member x mem in
        ap (λ ds. sum_by f (map (delay_to (W L m)) ds)) (ans.delays x mem)
        ∙ ap (sum_by f) (delays_same L m (transitions_in L (equation_of L m) v))
        ∙ sum_by_total f (delays_as term_words (standing L m v))
        ∙ total_joined f (delay_as term_words) (standing L m v)
        ∙ sym (kept L m law fits s (λ u. total f (delay_as term_words u)) v i.0)
        ∙ sym (total_joined f (delay_as term_words) (term_transitions L m s.tree (stands L m v)))
        ∙ sym (sum_by_total f (delays_as term_words (term_transitions L m s.tree (stands L m v))))
        ∙ ap (sum_by f) (sym (src.delays (stands L m v) (stands_in v i)))

    behaves : Behaves L m s.tree linear delays source waits (stands_for L m) term_words
    behaves = record {
      walks = λ calls. follows (run_walks linear delays calls).reached;
      reaches = reaches;
      moves = λ x mem v. all_moves_lem x mem _;
      rates = λ x mem t. all_delays_lem x mem _;
      all_moves = all_moves_lem;
      all_delays = all_delays_lem;
      stays = λ x mem. src.member (stands_for L m x) (stands_in (vector_of x) (ans.member x mem));
    }

pub behaves_over_sides : BehavesOverSides
behaves_over_sides L m law fits s linear delays source waits ans src = behaves L m law (fitted L m fits s) s linear delays ans source waits src
