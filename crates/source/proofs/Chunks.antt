-- The words of bytes, where the bytes are taken two at a time. Assumes nothing.
use Rattle.std.proofs.Common.{◌≡◌, ℕ, zero, suc, ◌+◌, ◌*◌, ◌/◌, Bool, ◌||◌, List, map, length, get_or, take, drop, refl, ap, ◌∙◌, ap₂, arith}
use Rattle.std.proofs.lemmas.List.{get_or-take, get_or-drop}
use Rattle.std.specs.List.{list_any, range_with_len}
use Rattle.std.specs.Simd.{first_chunks}
use Rattle.words.specs.Words.{word_at}
use Rattle.source.specs.Nodes.{words_in}

abbrev pub chunk_word : List ℕ → ℕ
chunk_word chunk = get_or chunk 0 0 * 256 + get_or chunk 1 0

module _ (test : ℕ → Bool) (bs : List ℕ) where
  from_word : (xs : List ℕ) (a n : ℕ) → ((k : ℕ) → get_or xs k 0 ≡ get_or bs (2 * a + k) 0)
      → list_any (λ chunk. test (chunk_word chunk)) (first_chunks 2 n xs) ≡ list_any test (map (λ i. word_at bs (2 * i)) (range_with_len a n))
  from_word xs a zero same = refl
  from_word xs a (suc n) same =
      let high : get_or (take 2 xs) 0 0 ≡ get_or bs (2 * a) 0 = get_or-take 2 xs 0 0 (omega arith) ∙ same 0 ∙ ap (λ k. get_or bs k 0) (omega arith) in
      let low : get_or (take 2 xs) 1 0 ≡ get_or bs (2 * a + 1) 0 = get_or-take 2 xs 1 0 (omega arith) ∙ same 1 in
      ap₂ {C = Bool} ◌||◌ (ap test (ap₂ {C = ℕ} (λ h l. h * 256 + l) high low))
      (from_word (drop 2 xs) (a + 1) n (λ k. get_or-drop 2 xs k 0 ∙ same (2 + k) ∙ ap (λ k. get_or bs k 0) (omega arith)))

  -- one of the chunks, read as words, passes a test where one of the words does
  pub any_word : list_any (λ chunk. test (chunk_word chunk)) (first_chunks 2 (length bs / 2) bs) ≡ list_any test (words_in bs)
  any_word = from_word bs 0 (length bs / 2) (λ k. ap (λ k. get_or bs k 0) (omega arith))
