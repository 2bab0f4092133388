-- Calls, children of actions and delays, and resting places, by their tests. Assumes nothing.
use Rattle.std.proofs.Common.{◌≡◌, ℕ, ◌<◌, Bool, true, false, cond, not, ◌&&◌, List, Some, None, Option, sym, refl, ap, ◌∙◌, inl, inr, ⊎_elim, arith}
use Rattle.std.proofs.lemmas.Bool.{cases_Bool, ltb-true, lt-ltb, or_cases, or_left, or_right, and_parts, and_from, not-true, not_from_false, false≢true, both_ways}
use Rattle.model_file.specs.declared.layout.Layout.{Layout}
use Rattle.model_file.specs.Fields.{process_count, body_of, node_count}
use Rattle.model_rules.specs.Shapes.{Shape, shape_at}
use Rattle.model_rules.specs.declared.shape.Shape.TheVariants.{Call, Condition, Choice, Sum, Action, Delay}
use Rattle.model_rules.specs.Sound.{IsBody, LeadsTo, Moved, IsCall, Resting}
use Rattle.model_rules.specs.Tallies.{movers, body_share, mover_share, total, is_call, moved, call_placed, resting}
use Rattle.model_rules.specs.Tallies as tallies
use Rattle.model_rules.proofs.Counts.{one_given, one_is, total_some, total_least}
use Rattle.model_rules.proofs.Decoded.{is_node, shape_is}

mover_one : (n : ℕ) (s : Shape) → LeadsTo s n → movers n (Some s) ≡ 1
mover_one n (Call p f) h = absurd h
mover_one n (Condition x c) h = absurd h
mover_one n (Choice x y) h = absurd h
mover_one n (Sum v c) h = absurd h
mover_one n (Action a f v w c) h = one_given c n h
mover_one n (Delay r c) h = one_given c n h

mover_there : (n : ℕ) (o : Option Shape) → 0 < movers n o → (s : Shape) × (o ≡ Some s) × LeadsTo s n
mover_there n None h = absurd (omega arith)
mover_there n (Some (Call p f)) h = absurd (omega arith)
mover_there n (Some (Condition x c)) h = absurd (omega arith)
mover_there n (Some (Choice x y)) h = absurd (omega arith)
mover_there n (Some (Sum v c)) h = absurd (omega arith)
mover_there n (Some (Action a f v w c)) h = (Action a f v w c, refl, one_is c n h)
mover_there n (Some (Delay r c)) h = (Delay r c, refl, one_is c n h)

call_there : (o : Option Shape) → is_call o ≡ true → (p : ℕ) × (f : ℕ) × (o ≡ Some (Call p f))
call_there None h = absurd (false≢true h)
call_there (Some (Call p f)) h = (p, f, refl)
call_there (Some (Condition x c)) h = absurd (false≢true h)
call_there (Some (Choice x y)) h = absurd (false≢true h)
call_there (Some (Sum v c)) h = absurd (false≢true h)
call_there (Some (Action a f v w c)) h = absurd (false≢true h)
call_there (Some (Delay r c)) h = absurd (false≢true h)

module _ (bs : List ℕ) (l : Layout) (n : ℕ) where
  pub moved_is : moved bs l n ≡ true → Moved bs l n
  moved_is h =
      let q = total_some (mover_share bs l n) (node_count bs l) 0 (ltb-true 0 (total (mover_share bs l n) (node_count bs l) 0) h) in
      let m = q.0 in
      let r = mover_there n (shape_at bs l m) q.3 in
      (m, r.0, is_node bs l m r.0 (omega (arith, q.2)) r.1, r.2)

  pub moved_made : Moved bs l n → moved bs l n ≡ true
  moved_made (m, s, is, leads) =
      let one : mover_share bs l n m ≡ 1 = ap (movers n) (shape_is bs l m s is) ∙ mover_one n s leads in
      let low = total_least (mover_share bs l n) (node_count bs l) 0 m (omega arith) (omega (arith, is.0)) in
      lt-ltb 0 (total (mover_share bs l n) (node_count bs l) 0) (omega arith)

  pub body_is : tallies.body bs l n ≡ true → (i : ℕ) × IsBody bs l n i
  body_is h =
      let q = total_some (body_share bs l n) (process_count bs l) 0 (ltb-true 0 (total (body_share bs l n) (process_count bs l) 0) h) in
      (q.0, (omega (arith, q.2), one_is (body_of bs l q.0) n q.3))

  pub body_made : (i : ℕ) → IsBody bs l n i → tallies.body bs l n ≡ true
  body_made i (low, at) =
      let one = one_given (body_of bs l i) n at in
      let least = total_least (body_share bs l n) (process_count bs l) 0 i (omega arith) (omega arith) in
      lt-ltb 0 (total (body_share bs l n) (process_count bs l) 0) (omega arith)

  pub call_is : n < node_count bs l → is_call (shape_at bs l n) ≡ true → IsCall bs l n
  call_is low h = let q = call_there (shape_at bs l n) h in (q.0, q.1, is_node bs l n (Call q.0 q.1) low q.2)

  pub call_made : IsCall bs l n → is_call (shape_at bs l n) ≡ true
  call_made (p, f, is) = ap is_call (shape_is bs l n (Call p f) is)

  pub placed_is : call_placed bs l n ≡ true → IsCall bs l n → Moved bs l n
  placed_is h call = moved_is (sym (ap (λ b. cond b (moved bs l n) true) (call_made call)) ∙ h)

  placed_by : n < node_count bs l → (IsCall bs l n → Moved bs l n) → (b : Bool) → is_call (shape_at bs l n) ≡ b → cond b (moved bs l n) true ≡ true
  placed_by low calls true e = moved_made (calls (call_is low e))
  placed_by low calls false e = refl

  pub placed_made : n < node_count bs l → (IsCall bs l n → Moved bs l n) → call_placed bs l n ≡ true
  placed_made low calls = placed_by low calls (is_call (shape_at bs l n)) refl

  pub resting_is : resting bs l n ≡ true → Resting bs l n
  resting_is h =
      ⊎_elim (λ (a : tallies.body bs l n ≡ true). inl (body_is a))
      (λ (b : (moved bs l n && not (is_call (shape_at bs l n))) ≡ true).
      let q = and_parts (moved bs l n) (not (is_call (shape_at bs l n))) b in
      let no = not-true (is_call (shape_at bs l n)) q.1 in
      inr (moved_is q.0, λ call. both_ways (is_call (shape_at bs l n)) no (call_made call)))
      (or_cases (tallies.body bs l n) (moved bs l n && not (is_call (shape_at bs l n))) h)

  no_call : n < node_count bs l → (IsCall bs l n → ⊥) → is_call (shape_at bs l n) ≡ false
  no_call low none = ⊎_elim (λ (a : is_call (shape_at bs l n) ≡ true). absurd (none (call_is low a))) (λ (b : is_call (shape_at bs l n) ≡ false). b) (cases_Bool (is_call (shape_at bs l n)))

  pub resting_made : n < node_count bs l → Resting bs l n → resting bs l n ≡ true
  resting_made low (inl (i, is)) = or_left (tallies.body bs l n) (moved bs l n && not (is_call (shape_at bs l n))) (body_made i is)
  resting_made low (inr (go, none)) =
      or_right (tallies.body bs l n) (moved bs l n && not (is_call (shape_at bs l n)))
      (and_from (moved bs l n) (not (is_call (shape_at bs l n))) (moved_made go) (not_from_false (is_call (shape_at bs l n)) (no_call low none)))
