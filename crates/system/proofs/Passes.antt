-- What a trail's steps stand for, read and written.
use Rattle.std.proofs.Common.{◌≡◌, ℕ, suc, ◌<◌, ◌≤◌, List, [], ◌∷◌, ◌++◌, map, reverse, length, get_or, None, Some, refl, sym, ap, ◌∙◌}
use Rattle.std.proofs.lemmas.List.{reverse-append, reverse-reverse}
use Rattle.std.proofs.lemmas.Option.{slice_get-get_or, slice_get-map, slice_get_past}
use Rattle.std.specs.List.{slice_get}
use Rattle.std.specs.Option.{option_map}
use Rattle.system.specs.Walks.{Passed, trail, step_at}
use Rattle.system.specs.Trails.{passed}
use Rattle.system.specs.declared.trail.Taken.{Taken}

pub length_trail : (ps : List Passed) → length (trail ps) ≡ length ps
length_trail [] = refl
length_trail (p ∷ ps) = ap suc (length_trail ps)

trail_append : (ps qs : List Passed) → trail (ps ++ qs) ≡ trail ps ++ trail qs
trail_append [] qs = refl
trail_append (p ∷ ps) qs = ap (λ ts. p.step ∷ ts) (trail_append ps qs)

module _ (w : ℕ) where
  abbrev pub past : List Taken → List Passed
  past ts = reverse (map (passed w) ts)

  -- the oldest first
  steps : (ts : List Taken) → trail (past ts) ≡ reverse (map (λ (t : Taken). t.step) ts)
  steps [] = refl
  steps (t ∷ ts) =
      ap trail (reverse-append (passed w t ∷ []) (map (passed w) ts))
      ∙ trail_append (past ts) (passed w t ∷ [])
      ∙ ap (λ l. l ++ t.step ∷ []) (steps ts)
      ∙ sym (reverse-append (t.step ∷ []) (map (λ (u : Taken). u.step) ts))

  step_read : (ts : List Taken) (i : ℕ) → step_at (past ts) i ≡ option_map (λ (t : Taken). t.step) (slice_get ts i)
  step_read ts i = ap (λ l. slice_get (reverse l) i) (steps ts) ∙ ap (λ l. slice_get l i) (reverse-reverse (map (λ (t : Taken). t.step) ts)) ∙ slice_get-map (λ (t : Taken). t.step) ts i

  pub step_there : (ts : List Taken) (i : ℕ) (t : Taken) → i < length ts → t ≡ get_or ts i t → Some t.step ≡ step_at (past ts) i
  step_there ts i t low is = ap (λ (u : Taken). Some u.step) is ∙ sym (step_read ts i ∙ ap (option_map (λ (u : Taken). u.step)) (slice_get-get_or ts i t low))

  pub step_none : (ts : List Taken) (i : ℕ) → length ts ≤ i → None ≡ step_at (past ts) i
  step_none ts i high = sym (step_read ts i ∙ ap (option_map (λ (u : Taken). u.step)) (slice_get_past ts i high))
