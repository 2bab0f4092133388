-- A list of f 0, f 1, .. by its places. Assumes nothing.
use Rattle.std.proofs.Common.{◌≡◌, ℕ, ◌<◌, ◌≤◌, length, get_or, Some, None, sym, ap, ◌∙◌, arith}
use Rattle.std.specs.List.{slice_get}
use Rattle.std.proofs.lemmas.List.FromFn.{length-map-range_with_len, get_or-map-range_with_len}
use Rattle.std.proofs.lemmas.List.{get_or_past}
use Rattle.std.proofs.lemmas.Option.{slice_get-get_or, slice_get_past}
use Rattle.model.specs.Flat.{numbered}

module _ {X : Type 0} (f : ℕ → X) (n : ℕ) where
  pub numbered_length : n ≡ length (numbered n f)
  numbered_length = sym (length-map-range_with_len f 0 n)

  pub numbered_at : (i : ℕ) (d : X) → i < n → f i ≡ get_or (numbered n f) i d
  numbered_at i d low = sym (get_or-map-range_with_len f 0 n i i d low (omega arith))

  pub numbered_past : (i : ℕ) (d : X) → n ≤ i → d ≡ get_or (numbered n f) i d
  numbered_past i d high = sym (get_or_past (numbered n f) i d (omega (arith, numbered_length)))

  pub numbered_nth : (i : ℕ) → i < n → Some (f i) ≡ slice_get (numbered n f) i
  numbered_nth i low = sym (slice_get-get_or (numbered n f) i (f i) (omega (arith, numbered_length)) ∙ ap Some (sym (numbered_at i (f i) low)))

  pub numbered_none : (i : ℕ) → n ≤ i → None ≡ slice_get (numbered n f) i
  numbered_none i high = sym (slice_get_past (numbered n f) i (omega (arith, numbered_length)))

-- how many there are, and what is read at a place
pub ruleset places = (numbered_length, numbered_at, numbered_past, numbered_nth, numbered_none)
