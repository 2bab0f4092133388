-- The two sides answer by the transitions of vectors and of terms.
use Rattle.std.proofs.Common.{◌≡◌, ℕ, zero, suc, ◌+◌, ◌-◌, ◌<◌, Bool, true, false, ◌&&◌, ◌||◌, eqb, ltb, leb, List, [], ◌∷◌, length, get_or, sym, refl, ap, ◌∙◌, subst, ⊎_elim, arith}
use Rattle.std.proofs.ByRecursion.{All-get_or}
use Rattle.std.proofs.lemmas.Bool.{and_parts, and_from, ltb-true, leb-true, lt-ltb, eq-eqb, or_left, or_right, cases_Bool, both_ways}
use Rattle.language.specs.Meanings.{Meaning, Lawful}
use Rattle.linear.specs.Laws.{within, fitted}
use Rattle.linear_side.specs.Meanings.{vector_words, vector_of, linear_meaning, linear_delays, is_vector}
use Rattle.model_file.specs.Fields.{node_count}
use Rattle.model_file.specs.Layouts.{layout_of}
use Rattle.model_rules.specs.Sound.{Resting}
use Rattle.model_rules.specs.Tallies.{resting}
use Rattle.model_rules.proofs.Moves.{resting_made}
use Rattle.model.specs.Flat.{flat}
use Rattle.model.specs.Trees.{call, tree_of}
use Rattle.model.specs.WellFormed.{WellFormed}
use Rattle.sides.specs.Lists.{moves_as, delays_as}
use Rattle.source.specs.Free.{free}
use Rattle.source.specs.Models.{Model, model_of, Term, node}
use Rattle.source.specs.Places.{places, place, counter}
use Rattle.source.specs.Sound.{Fits, Numbered, Calls}
use Rattle.source.specs.Terms.{transitions}
use Rattle.system.specs.Systems as system
use Rattle.term_side.specs.Meanings.{term_words, free_in, is_term, fitted_from, kept_transitions, term_meaning, term_delays}
use Rattle.term_side.proofs.Freed.{freed}
use Rattle.behaviour.specs.Linearised.{equation_of}
use Rattle.behaviour.specs.Sets.{InSet, InTerms}
use Rattle.behaviour.specs.Sides.{LinearAnswers, SourceAnswers}
use Rattle.behaviour.specs.Theorem.{EquationBehaves}
use Rattle.behaviour.proofs.Accepted.{accepted_sound, nodes_counted}
use Rattle.behaviour.proofs.Grown.{sound}
use Rattle.behaviour.proofs.Kept.{good, Good, here}
use Rattle.behaviour.proofs.Lands.{Found}
use Rattle.behaviour.proofs.Once as scopes
use Rattle.behaviour.proofs.Rests.{places_rest}
use Rattle.behaviour.proofs.Words.{behaves_over_sides}

-- each value of a vector is below its size
below_sizes : (ns vs : List ℕ) → fitted ns vs ≡ true → (length vs ≡ length ns) × ((x : ℕ) → x < length ns → get_or vs x 0 < get_or ns x 0)
below_sizes [] [] h = (refl, λ x low. absurd (omega arith))
below_sizes [] (v ∷ vs) h = absurd (both_ways false refl h)
below_sizes (n ∷ ns) [] h = absurd (both_ways false refl h)
below_sizes (n ∷ ns) (v ∷ vs) h =
    let z = and_parts (ltb v n) (fitted ns vs) h in
    let r = below_sizes ns vs z.1 in
    (ap suc r.0, at (ltb-true v n z.0) r.1)
  where
    at : v < n → ((x : ℕ) → x < length ns → get_or vs x 0 < get_or ns x 0) → (x : ℕ) → x < length (n ∷ ns) → get_or (v ∷ vs) x 0 < get_or (n ∷ ns) x 0
    at low r zero i = low
    at low r (suc x) i = r x (omega arith)

-- such values, 0 where they are not kept, pass
kept_fitted : (kept : ℕ → Bool) (k : ℕ) (ns vs : List ℕ) → length vs ≡ length ns → ((x : ℕ) → x < length ns → get_or vs x 0 < get_or ns x 0)
    → ((x : ℕ) → x < length ns → kept (k + x) ≡ false → get_or vs x 0 ≡ 0) → fitted_from kept k ns vs ≡ true
kept_fitted kept k [] [] e low none = refl
kept_fitted kept k [] (v ∷ vs) e low none = absurd (omega arith)
kept_fitted kept k (n ∷ ns) [] e low none = absurd (omega arith)
kept_fitted kept k (n ∷ ns) (v ∷ vs) e low none =
    and_from (ltb v n && (kept k || eqb v 0)) (fitted_from kept (suc k) ns vs)
    (and_from (ltb v n) (kept k || eqb v 0) (lt-ltb v n (low 0 (omega arith)))
    (⊎_elim (or_left (kept k) (eqb v 0))
    (λ (f : kept k ≡ false). or_right (kept k) (eqb v 0) (eq-eqb v 0 (none 0 (omega arith) (ap kept (omega arith) ∙ f)))) (cases_Bool (kept k))))
    (kept_fitted kept (suc k) ns vs (omega arith) (λ x i. low (suc x) (omega arith)) (λ x i f. none (suc x) (omega arith) (ap kept (omega arith) ∙ f)))

module _ (L : Meaning) (bs : List ℕ) (law : Lawful L) (w : WellFormed bs) (fits : Fits L (model_of (flat bs))) where
  abbrev m : Model
  m = model_of (flat bs)

  linear_member : (x : List ℕ) → is_vector (equation_of L m) x ≡ true → InSet m (vector_of x)
  linear_member [] h = absurd (both_ways false refl h)
  linear_member (c ∷ vs) h =
      let z = and_parts (within 1 (length (places m)) c) (fitted m.sizes vs) h in
      let r = and_parts (leb 1 c) (leb c (length (places m))) z.0 in
      let b = below_sizes m.sizes vs z.1 in
      ((leb-true 1 c r.0, leb-true c (length (places m)) r.1, b.0), b.1)

  linear_words : (x : List ℕ) → is_vector (equation_of L m) x ≡ true → vector_words (vector_of x) ≡ x
  linear_words [] h = absurd (both_ways false refl h)
  linear_words (c ∷ vs) h = refl

  linear_answers : system.Sound (linear_meaning L (equation_of L m)) → system.SoundDelays (linear_meaning L (equation_of L m)) (linear_delays L (equation_of L m))
      → LinearAnswers L m (linear_meaning L (equation_of L m)) (linear_delays L (equation_of L m))
  linear_answers s d = record {
    sound = s;
    waits = d;
    starts = refl;
    member = linear_member;
    words = linear_words;
    moves = λ x h. refl;
    delays = λ x h. refl;
  }

  -- what is known of the place of a term
  pub record AtPlace (n : ℕ) : Type 0 where
    pub low : n < node_count bs (layout_of bs)
    pub rests : resting bs (layout_of bs) n ≡ true
    pub tree : tree_of (flat bs) n ≡ place m (counter m n)
    pub numbered : Numbered m (tree_of (flat bs)) (tree_of (flat bs) n)
    pub calls : Calls m (tree_of (flat bs) n)

  at_place : (t : Term) → InTerms L m t → AtPlace t.place
  unfolding accepted_sound sound
  at_place t h =
      let s = accepted_sound bs w in
      let n = t.place in
      let p = place m (counter m n) in
      let c : counter m n - 1 < length (places m) = omega (arith, h.1) in
      let k = All-get_or (Good L m law (scopes.fitted L m fits s) s (Found L m)) (places m) (counter m n - 1) (call 0 0 []) c (good L m law (scopes.fitted L m fits s) s) in
      let r = All-get_or _ (places m) (counter m n - 1) (call 0 0 []) c (places_rest bs w) in
      let i = here L m law (scopes.fitted L m fits s) s p k.2 in
      let e : tree_of (flat bs) n ≡ p = ap (tree_of (flat bs)) (sym h.0) ∙ i.1 in
      let low : n < node_count bs (layout_of bs) = subst (λ z. z < node_count bs (layout_of bs)) h.0 (subst (λ z. node p < z) (nodes_counted bs w) i.0) in
      record {
        low = low;
        rests = resting_made bs (layout_of bs) n low (subst (λ z. Resting bs (layout_of bs) z) h.0 r);
        tree = e;
        numbered = subst (Numbered m (tree_of (flat bs))) (sym e) k.2;
        calls = subst (Calls m) (sym e) k.1;
      }

  term_member : (t : Term) → InTerms L m t → is_term bs (free_in L bs) (term_words t) ≡ true
  term_member t h =
      let a = at_place t h in
      and_from (ltb t.place (node_count bs (layout_of bs)) && resting bs (layout_of bs) t.place) (fitted_from (free_in L bs t.place) 0 m.sizes t.values)
      (and_from _ _ (lt-ltb _ _ a.low) a.rests)
      (kept_fitted (free_in L bs t.place) 0 m.sizes t.values h.2 h.3 (λ x i f. h.4 x i (ap (λ u. free L u x) (sym a.tree) ∙ (ap (free_in L bs t.place) (omega arith) ∙ f))))

  free_transitions : (t : Term) → InTerms L m t
      → kept_transitions L m (free_in L bs) (tree_of (flat bs) t.place) t.values ≡ transitions L m (tree_of (flat bs) t.place) t.values
  unfolding accepted_sound sound
  free_transitions t h =
      let a = at_place t h in
      freed L m (tree_of (flat bs)) (accepted_sound bs w).numbered (tree_of (flat bs) t.place) a.numbered a.calls t.values

  source_answers : SourceAnswers L m (tree_of (flat bs)) (term_meaning L bs (free_in L bs)) (term_delays L bs (free_in L bs))
  source_answers = record {
    member = term_member;
    moves = λ t h. ap (moves_as term_words) (free_transitions t h);
    delays = λ t h. ap (delays_as term_words) (free_transitions t h);
  }

pub equation_behaves : EquationBehaves
unfolding accepted_sound sound
equation_behaves L bs law w fits s d =
    behaves_over_sides L (model_of (flat bs)) law fits (accepted_sound bs w) (linear_meaning L (equation_of L (model_of (flat bs)))) (linear_delays L (equation_of L (model_of (flat bs))))
    (term_meaning L bs (free_in L bs)) (term_delays L bs (free_in L bs)) (linear_answers L bs law w fits s d) (source_answers L bs law w fits)
