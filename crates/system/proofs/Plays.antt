-- The loop that makes calls on a walk and notes their answers.
use Rattle.std.proofs.Common.{◌≡◌, ℕ, suc, ◌+◌, ◌<◌, ◌≤◌, List, [], ◌∷◌, length, get_or, drop, set, Result, sym, refl, ap, ◌∙◌, subst, arith}
use Rattle.std.proofs.lemmas.List.{at_drop_more, at_drop_all}
use Rattle.system.specs.Systems.{Meaning, Delay}
use Rattle.system.specs.Walks.{Course, call_answer, fresh, run, run_answers, played, played_answers, overlaid}
use Rattle.system.specs.Trails.{course, Called}
use Rattle.system.specs.Reaching.{Walked}
use Rattle.system.specs.declared.answers.Call.{Call}
use Rattle.system.specs.declared.refusal.Refusal.{Refusal}
use Rattle.system.specs.declared.trail.Trail.{Trail}
use Rattle.system.proofs.Reachings.{run_walks}

-- entries put one after another, from place i on
abbrev pub put_from : {X : Type 0} → ℕ → List X → List X → List X
put_from i [] before = before
put_from i (x ∷ xs) before = put_from (i + 1) xs (set before i x)

module _ {X : Type 0} where
  put_none : (i : ℕ) (xs : List X) → put_from i xs [] ≡ []
  put_none i [] = refl
  put_none i (x ∷ xs) = put_none (i + 1) xs

  put_later : (i : ℕ) (xs : List X) (y : X) (ys : List X) → put_from (suc i) xs (y ∷ ys) ≡ y ∷ put_from i xs ys
  put_later i [] y ys = refl
  put_later i (x ∷ xs) y ys =
      let e : suc i + 1 ≡ suc (i + 1) = omega arith in
      ap (λ j. put_from j xs (y ∷ set ys i x)) e ∙ put_later (i + 1) xs y (set ys i x)

  pub put_overlaid : (xs ys : List X) → put_from 0 xs ys ≡ overlaid xs ys
  put_overlaid [] ys = refl
  put_overlaid (x ∷ xs) [] = put_none 1 xs
  put_overlaid (x ∷ xs) (y ∷ ys) = put_later 0 xs x ys ∙ ap (λ zs. x ∷ zs) (put_overlaid xs ys)

abbrev pub Answers : Type 0
Answers = List (Result Unit Refusal)

module _ {S : Type 0} (mean : S → Meaning) (del : S → List ℕ → List Delay) where
  -- the calls from place i on lead to the last course and to all answers
  pub record Going (s : S) (calls : List Call) (i : ℕ) (t : Trail) (answers : Answers) (last : Course) (all : Answers) : Type 0 where
    pub runs : run (mean s) (del s) (drop i calls) (course (mean s).width t) ≡ last
    pub puts : put_from i (run_answers (mean s) (del s) (drop i calls) (course (mean s).width t)) answers ≡ all

  pub going_step : (s s₁ : S) (calls : List Call) (i : ℕ) (d : Call) (t₁ t₂ : Trail) (r : Result Unit Refusal) (before after : Answers) (last : Course) (all : Answers) → s₁ ≡ s → Going s calls i t₁ before last all → i < length calls → Called (mean s₁) (del s₁) (get_or calls i d) t₁ t₂ r → after ≡ set before i r → Going s calls (i + 1) t₂ after last all
  going_step s s₁ calls i d t₁ t₂ r before after last all same go low did noted =
      let C : S → Type 0 = λ y. Called (mean y) (del y) (get_or calls i d) t₁ t₂ r in
      let c = subst C same did in
      let rest = drop (i + 1) calls in
      let x₁ = course (mean s).width t₁ in
      record {
        runs = ap (run (mean s) (del s) rest) c.leaves ∙ sym (at_drop_more (λ ks. run (mean s) (del s) ks x₁) calls i d low) ∙ go.runs;
        puts =
            ap (λ zs. put_from (i + 1) (run_answers (mean s) (del s) rest (course (mean s).width t₂)) zs) (noted ∙ ap (set before i) c.answer)
            ∙ ap (λ x. put_from (i + 1) (run_answers (mean s) (del s) rest x) (set before i (call_answer (mean s) (del s) (get_or calls i d) x₁))) c.leaves
            ∙ sym (at_drop_more (λ ks. put_from i (run_answers (mean s) (del s) ks x₁) before) calls i d low)
            ∙ go.puts;
      }

  pub record Ended (s : S) (calls : List Call) (t : Trail) (before after : Answers) : Type 0 where
    pub answer : course (mean s).width t ≡ played (mean s) (del s) calls
    pub leaves : after ≡ overlaid (played_answers (mean s) (del s) calls) before
    pub walks : Walked (mean s) (del s) (course (mean s).width t)

  pub going_end : (s s₀ : S) (calls : List Call) (i : ℕ) (t₀ t : Trail) (before after : Answers) → s₀ ≡ s → course (mean s).width t₀ ≡ fresh (mean s).start → Going s₀ calls i t after (run (mean s₀) (del s₀) calls (course (mean s₀).width t₀)) (put_from 0 (run_answers (mean s₀) (del s₀) calls (course (mean s₀).width t₀)) before) → length calls ≤ i → Ended s calls t before after
  going_end s s₀ calls i t₀ t before after same starts go high =
      let G : S → Type 0 = λ y. Going y calls i t after (run (mean y) (del y) calls (course (mean y).width t₀)) (put_from 0 (run_answers (mean y) (del y) calls (course (mean y).width t₀)) before) in
      let g = subst G same go in
      let x = course (mean s).width t in
      let runs : x ≡ played (mean s) (del s) calls = sym (at_drop_all (λ ks. run (mean s) (del s) ks x) calls i high) ∙ g.runs ∙ ap (run (mean s) (del s) calls) starts in
      let W : Course → Type 0 = Walked (mean s) (del s) in
      record {
        answer = runs;
        leaves =
            sym (at_drop_all (λ ks. put_from i (run_answers (mean s) (del s) ks x) after) calls i high)
            ∙ g.puts
            ∙ ap (λ y. put_from 0 (run_answers (mean s) (del s) calls y) before) starts
            ∙ put_overlaid (played_answers (mean s) (del s) calls) before;
        walks = subst W (sym runs) (run_walks (mean s) (del s) calls);
      }
