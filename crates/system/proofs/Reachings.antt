-- Each state of a course is reached by the steps up to it, whatever is called.
use Rattle.std.proofs.Common.{◌≡◌, ℕ, ◌<◌, ◌≤◌, Bool, true, false, cond, eqb, ltb, List, [], ◌∷◌, length, Some, None, Ok, Err, Option, Result, refl, subst, arith}
use Rattle.std.proofs.lemmas.Bool.{eqb-false, ltb-true}
use Rattle.std.specs.List.{slice_get}
use Rattle.system.specs.Systems.{Meaning, Move, Outcome, Delay}
use Rattle.system.specs.Questions.{found, within, label_of, rate}
use Rattle.system.specs.Walks.{most_steps, Passed, Course, Next, acting, waiting, pushed, step_course, back_course, fresh, call_course, run, played, trail}
use Rattle.system.specs.Reaching.{Reached, none, acted, waited, Walked}
use Rattle.system.proofs.Passes.{length_trail}
use Rattle.system.specs.declared.answers.Call.{Call}
use Rattle.system.specs.declared.answers.Call.TheVariants.{Act, Wait, Back, Restart}
use Rattle.system.specs.declared.answers.Step.{Step}
use Rattle.system.specs.declared.answers.Step.TheVariants.{Acted, Waited}
use Rattle.system.specs.declared.refusal.Refusal.{Refusal}
use Rattle.system.specs.declared.refusal.Refusal.TheVariants.{NoMove, NoOutcome}

module _ (m : Meaning) (ds : List ℕ → List Delay) where
  abbrev Leads : List ℕ → Next → Type 0
  Leads x s = (ts : List Step) → Reached m ds ts x → Reached m ds (s.step ∷ ts) s.target

  leads_weight : (x : List ℕ) (k n : ℕ) (v : Move) (o : Outcome) (b : Bool) (s : Next) → slice_get (m.moves x) k ≡ Some v → slice_get v.outcomes n ≡ Some o → eqb o.weight 0 ≡ b → ◌≡◌ {A = Result Next Refusal} (cond b (Err NoOutcome) (Ok (record { step = Acted (label_of v) n; target = o.target }))) (Ok s) → Leads x s
  leads_weight x k n v o true s km kn kb e ts r = absurd (grind arith)
  leads_weight x k n v o false s km kn kb e ts r =
      let p : 0 < o.weight = let ne = eqb-false _ _ kb in omega arith in
      let f : ◌≡◌ {A = Next} (record { step = Acted (label_of v) n; target = o.target }) s = cc in
      let P : Next → Type 0 = λ y. Reached m ds (y.step ∷ ts) y.target in
      subst P f (acted k n v o r km kn p)

  leads_outcome : (x : List ℕ) (k n : ℕ) (v : Move) (ov : Option Outcome) (s : Next) → slice_get (m.moves x) k ≡ Some v → slice_get v.outcomes n ≡ ov → found {Y = Next} ov NoOutcome (λ o. cond (eqb o.weight 0) (Err NoOutcome) (Ok (record { step = Acted (label_of v) n; target = o.target }))) ≡ Ok s → Leads x s
  leads_outcome x k n v None s km kn e ts r = absurd (grind arith)
  leads_outcome x k n v (Some o) s km kn e ts r = leads_weight x k n v o (eqb o.weight 0) s km kn refl e ts r

  leads_move : (x : List ℕ) (k n : ℕ) (b : Bool) (mv : Option Move) (s : Next) → slice_get (m.moves x) k ≡ mv → within {Y = Next} b (found mv NoMove (λ v. found (slice_get v.outcomes n) NoOutcome (λ o. cond (eqb o.weight 0) (Err NoOutcome) (Ok (record { step = Acted (label_of v) n; target = o.target }))))) ≡ Ok s → Leads x s
  leads_move x k n false mv s km e ts r = absurd (grind arith)
  leads_move x k n true None s km e ts r = absurd (grind arith)
  leads_move x k n true (Some v) s km e ts r = leads_outcome x k n v (slice_get v.outcomes n) s km refl e ts r

  pub acting_leads : (x : List ℕ) (k n : ℕ) (s : Next) → acting m k n x ≡ Ok s → Leads x s
  acting_leads x k n s e = leads_move x k n (m.member x) (slice_get (m.moves x) k) s refl e

  leads_delay : (x : List ℕ) (k : ℕ) (b : Bool) (od : Option Delay) (s : Next) → slice_get (ds x) k ≡ od → within {Y = Next} b (found od NoMove (λ d. Ok (record { step = Waited (rate d.rate); target = d.target }))) ≡ Ok s → Leads x s
  leads_delay x k false od s kd e ts r = absurd (grind arith)
  leads_delay x k true None s kd e ts r = absurd (grind arith)
  leads_delay x k true (Some d) s kd e ts r =
      let f : ◌≡◌ {A = Next} (record { step = Waited (rate d.rate); target = d.target }) s = cc in
      let P : Next → Type 0 = λ y. Reached m ds (y.step ∷ ts) y.target in
      subst P f (waited k d r kd)

  pub waiting_leads : (x : List ℕ) (k : ℕ) (s : Next) → waiting m ds k x ≡ Ok s → Leads x s
  waiting_leads x k s e = leads_delay x k (m.member x) (slice_get (ds x) k) s refl e

  -- each state of a course is reached
  abbrev pub Tale : List ℕ → List Passed → Type 0
  Tale x [] = Reached m ds [] x
  Tale x (p ∷ ps) = Reached m ds (p.step ∷ trail ps) x × Tale p.from ps

  abbrev pub Told : Course → Type 0
  Told c = Tale c.here c.past

  pub tale_now : (x : List ℕ) (ps : List Passed) → Tale x ps → Reached m ds (trail ps) x
  tale_now x [] t = t
  tale_now x (p ∷ ps) t = t.0

  told_push : (c : Course) (s : Next) (b : Bool) → Leads c.here s → Told c → Told (cond b (pushed s c) c)
  told_push c s true l t = (l _ (tale_now c.here c.past t), t)
  told_push c s false l t = t

  told_step : (c : Course) (r : Result Next Refusal) → ((s : Next) → r ≡ Ok s → Leads c.here s) → Told c → Told (step_course r c)
  told_step c (Err e) l t = t
  told_step c (Ok s) l t = told_push c s (ltb (length c.past) most_steps) (l s refl) t

  tale_back : (x : List ℕ) (ps : List Passed) → Tale x ps → Told (back_course ps (record { here = x; past = ps }))
  tale_back x [] t = t
  tale_back x (p ∷ ps) t = t.1

  pub told_fresh : Told (fresh m.start)
  told_fresh = none

  pub told_called : (k : Call) (c : Course) → Told c → Told (call_course m ds k c)
  told_called (Act k n) c t = told_step c (acting m k n c.here) (acting_leads c.here k n) t
  told_called (Wait k) c t = told_step c (waiting m ds k c.here) (waiting_leads c.here k) t
  told_called Back c t = tale_back c.here c.past t
  told_called Restart c t = told_fresh

  pub told_run : (ks : List Call) (c : Course) → Told c → Told (run m ds ks c)
  told_run [] c t = t
  told_run (k ∷ ks) c t = told_run ks (call_course m ds k c) (told_called k c t)

  -- trails are short
  abbrev Short : Course → Type 0
  Short c = length c.past ≤ most_steps

  short_push : (c : Course) (s : Next) (b : Bool) → ltb (length c.past) most_steps ≡ b → Short c → Short (cond b (pushed s c) c)
  short_push c s true e h = let l = ltb-true _ _ e in omega arith
  short_push c s false e h = h

  short_step : (c : Course) (r : Result Next Refusal) → Short c → Short (step_course r c)
  short_step c (Err e) h = h
  short_step c (Ok s) h = short_push c s (ltb (length c.past) most_steps) refl h

  short_back : (x : List ℕ) (ps : List Passed) → length ps ≤ most_steps → Short (back_course ps (record { here = x; past = ps }))
  short_back x [] h = h
  short_back x (p ∷ ps) h = omega arith

  short_called : (k : Call) (c : Course) → Short c → Short (call_course m ds k c)
  short_called (Act k n) c h = short_step c (acting m k n c.here) h
  short_called (Wait k) c h = short_step c (waiting m ds k c.here) h
  short_called Back c h = short_back c.here c.past h
  short_called Restart c h = omega arith

  short_run : (ks : List Call) (c : Course) → Short c → Short (run m ds ks c)
  short_run [] c h = h
  short_run (k ∷ ks) c h = short_run ks (call_course m ds k c) (short_called k c h)

  -- whatever is called on a new walk, its state is reached by its trail, which is short
  pub run_walks : (ks : List Call) → Walked m ds (played m ds ks)
  run_walks ks =
      let c = played m ds ks in
      record {
        reached = tale_now c.here c.past (told_run ks (fresh m.start) told_fresh);
        short = rw length_trail (short_run ks (fresh m.start) (omega arith));
      }
