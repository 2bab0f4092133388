-- Laws of walks: whatever is reached by few steps, some calls lead to; refused calls change nothing; back undoes.
use Rattle.std.proofs.Common.{◌≡◌, ℕ, zero, suc, ◌<◌, Bool, true, false, eqb, ltb, List, [], ◌∷◌, ◌++◌, length, Some, Ok, Err, Result, refl, ap, ◌∙◌, subst, arith}
use Rattle.std.proofs.lemmas.Bool.{lt-ltb, ne_eqb}
use Rattle.std.specs.List.{slice_get, AllByRecursion}
use Rattle.system.specs.Systems.{Meaning, Move, Outcome, Delay, Sound, SoundDelays, FairMove, FairDelay}
use Rattle.system.specs.Questions.{label_of, rate}
use Rattle.system.specs.Walks.{most_steps, Passed, Course, Next, acting, waiting, pushed, step_answer, step_course, back_answer, back_course, call_answer, call_course, run, fresh, played, trail}
use Rattle.system.specs.Reaching.{Reached, none, acted, waited, Covers, WalkRules}
use Rattle.system.specs.declared.answers.Call.{Call}
use Rattle.system.specs.declared.answers.Call.TheVariants.{Act, Wait, Back, Restart}
use Rattle.system.specs.declared.answers.Step.{Step}
use Rattle.system.specs.declared.answers.Step.TheVariants.{Acted, Waited}
use Rattle.system.specs.declared.refusal.Refusal.{Refusal}
use Rattle.system.proofs.Passes.{length_trail}

pub all_nth : {X : Type 0} (P : X → Type 0) (xs : List X) (k : ℕ) (x : X) → slice_get xs k ≡ Some x → AllByRecursion P xs → P x
all_nth P [] k x e a = absurd (let z : ◌≡◌ {A = ℕ} 0 1 = cc in omega arith)
all_nth P (y ∷ xs) zero x e a = let q : y ≡ x = cc in subst P q a.0
all_nth P (y ∷ xs) (suc k) x e a = all_nth P xs k x e a.1

module _ (m : Meaning) (ds : List ℕ → List Delay) where
  run_append : (ks ls : List Call) (c : Course) → run m ds (ks ++ ls) c ≡ run m ds ls (run m ds ks c)
  run_append [] ls c = refl
  run_append (k ∷ ks) ls c = run_append ks ls (call_course m ds k c)

  step_stays : (r : Result Next Refusal) (c : Course) (b : Bool) (e : Refusal) → ltb (length c.past) most_steps ≡ b → step_answer r c ≡ Err e → step_course r c ≡ c
  step_stays (Err y) c b e t h = refl
  step_stays (Ok s) c true e t h = absurd (grind (arith, t))
  step_stays (Ok s) c false e t h = rw t

  back_stays : (x : List ℕ) (ps : List Passed) (e : Refusal) → back_answer ps ≡ Err e → back_course ps (record { here = x; past = ps }) ≡ record { here = x; past = ps }
  back_stays x [] e h = refl
  back_stays x (p ∷ ps) e h = absurd (grind arith)

  call_stays : (k : Call) (c : Course) (e : Refusal) → call_answer m ds k c ≡ Err e → call_course m ds k c ≡ c
  call_stays (Act k n) c e h = step_stays (acting m k n c.here) c (ltb (length c.past) most_steps) e refl h
  call_stays (Wait k) c e h = step_stays (waiting m ds k c.here) c (ltb (length c.past) most_steps) e refl h
  call_stays Back c e h = back_stays c.here c.past e h
  call_stays Restart c e h = absurd (grind arith)

  step_undone : (r : Result Next Refusal) (c : Course) (b : Bool) → ltb (length c.past) most_steps ≡ b → step_answer r c ≡ Ok tt → call_course m ds Back (step_course r c) ≡ c
  step_undone (Err y) c b t h = absurd (grind arith)
  step_undone (Ok s) c true t h = rw t
  step_undone (Ok s) c false t h = absurd (grind (arith, t))

module _ (m : Meaning) (ds : List ℕ → List Delay) (sound : Sound m) (waits : SoundDelays m ds) where
  pub reached_member : (ts : List Step) (x : List ℕ) → Reached m ds ts x → m.member x ≡ true
  reached_member _ _ none = sound.starts
  reached_member _ _ (acted {ts} {x} k n v o r e f h) =
      let move = all_nth (FairMove m.member) (m.moves x) k v e (sound.fair x (reached_member ts x r)) in
      all_nth (λ (y : Outcome). m.member y.target ≡ true) v.outcomes n o f move.closed
  reached_member _ _ (waited {ts} {x} k d r e) = (all_nth (FairDelay m.member) (ds x) k d e (waits.fair x (reached_member ts x r))).closed

  acting_there : (x : List ℕ) (k n : ℕ) (v : Move) (o : Outcome) → m.member x ≡ true → slice_get (m.moves x) k ≡ Some v → slice_get v.outcomes n ≡ Some o → 0 < o.weight → acting m k n x ≡ Ok (record { step = Acted (label_of v) n; target = o.target })
  acting_there x k n v o inside e f h =
      let z : eqb o.weight 0 ≡ false = ne_eqb _ _ (λ q. omega arith) in
      rw (inside, e, f, z)

  waiting_there : (x : List ℕ) (k : ℕ) (d : Delay) → m.member x ≡ true → slice_get (ds x) k ≡ Some d → waiting m ds k x ≡ Ok (record { step = Waited (rate d.rate); target = d.target })
  waiting_there x k d inside e = rw (inside, e)

  -- calls that lead to a state by its steps
  abbrev Led : List Step → List ℕ → Type 0
  Led ts x = (calls : List Call) × (trail (played m ds calls).past ≡ ts) × ((played m ds calls).here ≡ x)

  -- one call more, which is not refused
  led_on : (ts : List Step) (x : List ℕ) (s : Next) (k : Call) (r : List ℕ → Result Next Refusal) → ((c : Course) → call_course m ds k c ≡ step_course (r c.here) c) → r x ≡ Ok s → length ts < most_steps → Led ts x → Led (s.step ∷ ts) s.target
  led_on ts x s k r does leads low p =
      let c = played m ds p.0 in
      let long = length_trail c.past in
      let full = ap length p.1 in
      let short : length c.past < most_steps = omega arith in
      let open-yet = lt-ltb _ _ short in
      let pushes : step_course (Ok s) c ≡ pushed s c = rw open-yet in
      let after : played m ds (p.0 ++ k ∷ []) ≡ pushed s c = run_append m ds p.0 (k ∷ []) (fresh m.start) ∙ does c ∙ ap (λ y. step_course y c) (ap r p.2 ∙ leads) ∙ pushes in
      (p.0 ++ k ∷ [], ap (λ (y : Course). trail y.past) after ∙ ap (λ zs. s.step ∷ zs) p.1, ap (λ (y : Course). y.here) after)

  covers : Covers m ds
  covers _ _ none h = ([], refl, refl)
  covers _ _ (acted {ts} {x} k n v o r e f w) h = led_on ts x _ (Act k n) (acting m k n) (λ c. refl) (acting_there x k n v o (reached_member ts x r) e f w) (omega arith) (covers ts x r (omega arith))
  covers _ _ (waited {ts} {x} k d r e) h = led_on ts x _ (Wait k) (waiting m ds k) (λ c. refl) (waiting_there x k d (reached_member ts x r) e) (omega arith) (covers ts x r (omega arith))

  pub walk_rules : WalkRules m ds
  walk_rules =
      let new = fresh m.start in
      record {
        covers = covers;
        stays = λ calls k e h. run_append m ds calls (k ∷ []) new ∙ call_stays m ds k (played m ds calls) e h;
        undoes_act = λ calls k n h. let c = played m ds calls in run_append m ds calls (Act k n ∷ (Back ∷ [])) new ∙ step_undone m ds (acting m k n c.here) c (ltb (length c.past) most_steps) refl h;
        undoes_wait = λ calls k h. let c = played m ds calls in run_append m ds calls (Wait k ∷ (Back ∷ [])) new ∙ step_undone m ds (waiting m ds k c.here) c (ltb (length c.past) most_steps) refl h;
        restarts = λ calls. run_append m ds calls (Restart ∷ []) new;
      }
