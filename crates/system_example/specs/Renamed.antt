-- A layer that renames an action keeps what a system owes, and its answers.
use Rattle.std.specs.Prelude.{◌≡◌, ℕ, ◌<◌, Bool, true, false, List, length, Some, None, Ok, Err, Option, Result, ◌==◌, ◌≢◌, nat_eq, refl}
use Rattle.std.proofs.Common.{sym, ap, ◌∙◌, arith}
use Rattle.std.proofs.ByRecursion.{All-map, All-weaker}
use Rattle.std.proofs.lemmas.List.{length-map}
use Rattle.std.proofs.lemmas.Bool.{eq-eqb, ne_eqb, cond_both}
use Rattle.std.proofs.lemmas.Option.{slice_get-map}
use Rattle.std.specs.List.{slice_get}
use Rattle.std.specs.Option.{option_map}
use Rattle.system.specs.Systems.{Meaning, Move, Outcome, FairMove, Sound}
use Rattle.system.specs.Questions.{found, within, fitting, move_count_answer, outcome_count_answer, label_answer, label_of, weight, outcome_answer, outcome_target, target_at, outcomes_at}
use Rattle.system.specs.declared.answers.Label.{Label}
use Rattle.system.specs.declared.answers.Weight.{Weight}
use Rattle.system.specs.declared.refusal.Refusal.{Refusal}
use Rattle.system.specs.declared.refusal.Refusal.TheVariants.{NoMove, NoOutcome}
use Rattle.system_example.specs.Renamings.{rename_move, renamed}

module _ (a b : ℕ) (low : b < 64) where
  rename_fair : (member : List ℕ → Bool) (v : Move) → FairMove member v → FairMove member (rename_move a b v)
  rename_fair member v f = record {
    action_low = cond_both (v.action == a) b v.action (λ n. n < 64) (λ _. low) (λ _. f.action_low);
    arguments_few = f.arguments_few;
    outcomes_few = f.outcomes_few;
    positive = f.positive;
    total_low = f.total_low;
    closed = f.closed;
  }

  pub rename_sound : (m : Meaning) → Sound m → Sound (renamed a b m)
  rename_sound m s = record {
    wide = s.wide;
    narrow = s.narrow;
    sized = s.sized;
    starts = s.starts;
    few = λ x h. simp length-map (s.few x h);
    fair = λ x h. All-map (FairMove m.member) (rename_move a b) (m.moves x) (All-weaker (FairMove m.member) (λ v. FairMove m.member (rename_move a b v)) (rename_fair m.member) (m.moves x) (s.fair x h));
  }

module _ (a b : ℕ) (m : Meaning) (x : List ℕ) where
  pub rename_count : move_count_answer m x ≡ move_count_answer (renamed a b m) x
  rename_count = simp length-map

  outcomes_found : (mv : Option Move) → found {Y = ℕ} mv NoMove (λ v. Ok (length v.outcomes)) ≡ found (option_map (rename_move a b) mv) NoMove (λ v. Ok (length v.outcomes))
  outcomes_found None = refl
  outcomes_found (Some v) = refl

  pub rename_outcomes : (k : ℕ) → outcome_count_answer m x k ≡ outcome_count_answer (renamed a b m) x k
  rename_outcomes k = rw slice_get-map (ap (within (m.member x)) (outcomes_found (slice_get (m.moves x) k)))

  at_same : (mv : Option Move) → outcomes_at mv ≡ outcomes_at (option_map (rename_move a b) mv)
  at_same None = refl
  at_same (Some v) = refl

  pub rename_target : (k n : ℕ) → outcome_target m x k n ≡ outcome_target (renamed a b m) x k n
  rename_target k n = rw slice_get-map (ap (λ (os : List Outcome). target_at (slice_get os n)) (at_same (slice_get (m.moves x) k)))

  weights_found : (n : ℕ) (mv : Option Move) → found {Y = Weight} mv NoMove (λ v. found (slice_get v.outcomes n) NoOutcome (λ o. Ok (weight o.weight))) ≡ found (option_map (rename_move a b) mv) NoMove (λ v. found (slice_get v.outcomes n) NoOutcome (λ o. Ok (weight o.weight)))
  weights_found n None = refl
  weights_found n (Some v) = refl

  pub rename_outcome : (k n : ℕ) (buffer : List ℕ) → outcome_answer m x k n buffer ≡ outcome_answer (renamed a b m) x k n buffer
  rename_outcome k n buffer = rw slice_get-map (ap (λ r. fitting m buffer (within (m.member x) r)) (weights_found n (slice_get (m.moves x) k)))

  -- a label that is renamed, one that is kept, and none
  abbrev relabelled : Label → Label
  relabelled l = record { action = b; count = l.count; values = l.values }

  new_label : (l : Label) (s : Bool) (mv : Option Move) → Ok l ≡ within s (found mv NoMove (λ v. Ok (label_of v))) → l.action ≡ a → Ok (relabelled l) ≡ within s (found (option_map (rename_move a b) mv) NoMove (λ v. Ok (label_of v)))
  new_label l false mv e h = absurd (grind arith)
  new_label l true None e h = absurd (grind arith)
  new_label l true (Some v) e h =
      let f : l ≡ label_of v = cc in
      let t : nat_eq v.action a ≡ true = eq-eqb _ _ (sym (ap (λ (y : Label). y.action) f) ∙ h) in
      rw t (ap Ok (ap relabelled f))

  pub rename_new : (k : ℕ) (l : Label) → Ok l ≡ label_answer m x k → l.action ≡ a → Ok (relabelled l) ≡ label_answer (renamed a b m) x k
  rename_new k l e h = rw slice_get-map (new_label l (m.member x) (slice_get (m.moves x) k) e h)

  same_label : (l : Label) (s : Bool) (mv : Option Move) → Ok l ≡ within s (found mv NoMove (λ v. Ok (label_of v))) → (l.action ≢ a) → Ok l ≡ within s (found (option_map (rename_move a b) mv) NoMove (λ v. Ok (label_of v)))
  same_label l false mv e h = absurd (grind arith)
  same_label l true None e h = absurd (grind arith)
  same_label l true (Some v) e h =
      let f : l ≡ label_of v = cc in
      let t : nat_eq v.action a ≡ false = ne_eqb _ _ (λ z. h (ap (λ (y : Label). y.action) f ∙ z)) in
      rw t e

  pub rename_kept : (k : ℕ) (l : Label) → Ok l ≡ label_answer m x k → (l.action ≢ a) → Ok l ≡ label_answer (renamed a b m) x k
  rename_kept k l e h = rw slice_get-map (same_label l (m.member x) (slice_get (m.moves x) k) e h)

  no_label : (y : Refusal) (s : Bool) (mv : Option Move) → Err y ≡ within {Y = Label} s (found mv NoMove (λ v. Ok (label_of v))) → Err y ≡ within {Y = Label} s (found (option_map (rename_move a b) mv) NoMove (λ v. Ok (label_of v)))
  no_label y false mv e = e
  no_label y true None e = e
  no_label y true (Some v) e = absurd (grind arith)

  pub rename_refused : (k : ℕ) (y : Refusal) (r : Result Label Refusal) → r ≡ Err y → Err y ≡ label_answer m x k → r ≡ label_answer (renamed a b m) x k
  rename_refused k y r is e = is ∙ rw slice_get-map (no_label y (m.member x) (slice_get (m.moves x) k) e)
