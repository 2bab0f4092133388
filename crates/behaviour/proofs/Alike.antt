-- Equal lists, terms and transitions by a test. Assumes nothing.
use Rattle.std.proofs.Common.{◌≡◌, ℕ, Bool, true, false, cond, ◌&&◌, eqb, List, [], ◌∷◌, sym, refl, ap, subst, ap₂, ⊎_elim}
use Rattle.std.proofs.lemmas.Bool.{eq-eqb, eqb-true, and_parts, and_from, both_ways, cases_Bool}
use Rattle.valuation.specs.Transitions.{Outcome, Transition, move, wait}
use Rattle.system.specs.Systems as system
use Rattle.source.specs.Models.{Term}
use Rattle.source.specs.Rules.{same_list}
use Rattle.behaviour.specs.Lists as lists
use Rattle.behaviour.specs.Lists.{same_words, same_move, rate_into}
use Rattle.behaviour.specs.Behaves.{Counted}

pub list_true : {X : Type 0} (same : X → X → Bool) → ((x y : X) → same x y ≡ true → x ≡ y) → (xs ys : List X) → same_list same xs ys ≡ true → xs ≡ ys
list_true same h [] [] e = refl
list_true same h [] (y ∷ ys) e = absurd (both_ways _ refl e)
list_true same h (x ∷ xs) [] e = absurd (both_ways _ refl e)
list_true same h (x ∷ xs) (y ∷ ys) e = let p = and_parts (same x y) (same_list same xs ys) e in ap₂ {C = List _} ◌∷◌ (h x y p.0) (list_true same h xs ys p.1)

list_refl : {X : Type 0} (same : X → X → Bool) → ((x : X) → same x x ≡ true) → (xs : List X) → same_list same xs xs ≡ true
list_refl same h [] = refl
list_refl same h (x ∷ xs) = and_from _ _ (h x) (list_refl same h xs)

eqb_refl : (n : ℕ) → eqb n n ≡ true
eqb_refl n = eq-eqb n n refl

abbrev pub same_term : Term → Term → Bool
same_term s t = eqb s.place t.place && same_list eqb s.values t.values

abbrev pub same_outcome : Outcome Term → Outcome Term → Bool
same_outcome o p = eqb o.weight p.weight && same_term o.to p.to

abbrev pub same_transition : Transition Term → Transition Term → Bool
same_transition (move a args outs) (move b brgs puts) = eqb a b && (same_list eqb args brgs && same_list same_outcome outs puts)
same_transition (move a args outs) (wait r s) = false
same_transition (wait r t) (move a args outs) = false
same_transition (wait r t) (wait q s) = eqb r q && same_term t s

pub term_true : (s t : Term) → same_term s t ≡ true → s ≡ t
term_true s t e =
    let p = and_parts (eqb s.place t.place) _ e in
    let q : s.place ≡ t.place = eqb-true _ _ p.0 in
    let r : s.values ≡ t.values = list_true eqb eqb-true s.values t.values p.1 in
    λ i. record { place = q i; values = r i }

term_refl : (s : Term) → same_term s s ≡ true
term_refl s = and_from _ _ (eqb_refl s.place) (list_refl eqb eqb_refl s.values)

pub outcome_true : (s t : Outcome Term) → same_outcome s t ≡ true → s ≡ t
outcome_true s t e =
    let p = and_parts (eqb s.weight t.weight) _ e in
    let q : s.weight ≡ t.weight = eqb-true _ _ p.0 in
    let r : s.to ≡ t.to = term_true s.to t.to p.1 in
    λ i. record { weight = q i; to = r i }

outcome_refl : (s : Outcome Term) → same_outcome s s ≡ true
outcome_refl s = and_from _ _ (eqb_refl s.weight) (term_refl s.to)

pub transition_true : (s u : Transition Term) → same_transition s u ≡ true → s ≡ u
transition_true (move a args outs) (move b brgs puts) e =
    let p = and_parts (eqb a b) _ e in let q = and_parts (same_list eqb args brgs) _ p.1 in
    let x : a ≡ b = eqb-true _ _ p.0 in
    let y : args ≡ brgs = list_true eqb eqb-true args brgs q.0 in
    let z : outs ≡ puts = list_true same_outcome outcome_true outs puts q.1 in
    λ i. move (x i) (y i) (z i)
transition_true (move a args outs) (wait q s) e = absurd (both_ways _ refl e)
transition_true (wait r t) (move a args outs) e = absurd (both_ways _ refl e)
transition_true (wait r t) (wait q s) e = let p = and_parts (eqb r q) _ e in ap₂ {C = Transition Term} wait (eqb-true r q p.0) (term_true t s p.1)

pub transition_refl : (s : Transition Term) → same_transition s s ≡ true
transition_refl (move a args outs) = and_from _ _ (eqb_refl a) (and_from _ _ (list_refl eqb eqb_refl args) (list_refl same_outcome outcome_refl outs))
transition_refl (wait r t) = and_from _ _ (eqb_refl r) (term_refl t)

-- the tests over words
words_true : (xs ys : List ℕ) → same_words xs ys ≡ true → xs ≡ ys
words_true xs ys e = list_true eqb eqb-true xs ys e

words_refl : (xs : List ℕ) → same_words xs xs ≡ true
words_refl xs = list_refl eqb eqb_refl xs

out_true : (o p : system.Outcome) → lists.same_outcome o p ≡ true → o ≡ p
out_true o p e =
    let z = and_parts (eqb o.weight p.weight) _ e in
    let q : o.weight ≡ p.weight = eqb-true _ _ z.0 in
    let r : o.target ≡ p.target = words_true o.target p.target z.1 in
    λ i. record { weight = q i; target = r i }

out_refl : (o : system.Outcome) → lists.same_outcome o o ≡ true
out_refl o = and_from _ _ (eqb_refl o.weight) (words_refl o.target)

move_true : (v u : system.Move) → same_move v u ≡ true → v ≡ u
move_true v u e =
    let p = and_parts (eqb v.action u.action) _ e in
    let q = and_parts (same_words v.arguments u.arguments) _ p.1 in
    let x : v.action ≡ u.action = eqb-true _ _ p.0 in
    let y : v.arguments ≡ u.arguments = words_true v.arguments u.arguments q.0 in
    let z : v.outcomes ≡ u.outcomes = list_true lists.same_outcome out_true v.outcomes u.outcomes q.1 in
    λ i. record { action = x i; arguments = y i; outcomes = z i }

move_refl : (v : system.Move) → same_move v v ≡ true
move_refl v = and_from _ _ (eqb_refl v.action) (and_from _ _ (words_refl v.arguments) (list_refl lists.same_outcome out_refl v.outcomes))

into_refl : (t u : List ℕ) (r : ℕ) → u ≡ t → cond (same_words t u) r 0 ≡ r
into_refl t u r e = ap (λ b. cond b r 0) (subst (λ y. same_words t y ≡ true) (sym e) (words_refl t))

into_else : (t u : List ℕ) (r : ℕ) → (u ≡ t → ⊥) → cond (same_words t u) r 0 ≡ 0
into_else t u r n = ⊎_elim (λ e. absurd (n (sym (words_true t u e)))) (λ e. ap (λ b. cond b r 0) e) (cases_Bool (same_words t u))

pub counted_means : Counted
counted_means = record {
  same = move_true;
  always = move_refl;
  into = λ t d e. into_refl t d.target d.rate e;
  elsewhere = λ t d n. into_else t d.target d.rate n;
}
