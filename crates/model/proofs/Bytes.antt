-- Words as bytes, and the bytes of a list read as words. Assumes that each byte is below 256.
use Rattle.std.proofs.Common.{◌≡◌, ℕ, zero, suc, ◌+◌, ◌*◌, ◌/◌, ◌%◌, ◌<◌, ◌≤◌, List, [], ◌∷◌, ◌++◌, map, length, get_or, take, drop, sym, refl, ap, ◌∙◌, append_assoc, add-zero, mul-zero, mul-suc, add-one, arith}
use Rattle.std.specs.List.{range_with_len, flat_map}
use Rattle.std.proofs.lemmas.List.{drop_more}
use Rattle.words.specs.Words.{word_at, bytes_of}
use Rattle.model.specs.Flat.{numbered}

pub bytes_append : (xs ys : List ℕ) → bytes_of (xs ++ ys) ≡ bytes_of xs ++ bytes_of ys
bytes_append [] ys = refl
bytes_append (x ∷ xs) ys = ap (λ zs. x / 256 ∷ (x % 256 ∷ zs)) (bytes_append xs ys)

pub bytes_take : (k : ℕ) (xs : List ℕ) → bytes_of (take k xs) ≡ take (2 * k) (bytes_of xs)
bytes_take zero xs = refl
bytes_take (suc k) [] = let e : 2 * suc k ≡ suc (suc (2 * k)) = omega arith in sym (ap (λ j. take j []) e)
bytes_take (suc k) (x ∷ xs) =
    let e : 2 * suc k ≡ suc (suc (2 * k)) = omega arith in
    ap (λ zs. x / 256 ∷ (x % 256 ∷ zs)) (bytes_take k xs) ∙ sym (ap (λ j. take j (bytes_of (x ∷ xs))) e)

pub bytes_drop : (k : ℕ) (xs : List ℕ) → bytes_of (drop k xs) ≡ drop (2 * k) (bytes_of xs)
bytes_drop zero xs = refl
bytes_drop (suc k) [] = let e : 2 * suc k ≡ suc (suc (2 * k)) = omega arith in sym (ap (λ j. drop j []) e)
bytes_drop (suc k) (x ∷ xs) =
    let e : 2 * suc k ≡ suc (suc (2 * k)) = omega arith in
    bytes_drop k xs ∙ sym (ap (λ j. drop j (bytes_of (x ∷ xs))) e)

-- words by words
pub joined_single : (xs : List ℕ) → flat_map (λ x. x ∷ []) xs ≡ xs
joined_single [] = refl
joined_single (x ∷ xs) = ap (λ ys. x ∷ ys) (joined_single xs)

-- n words from p on
abbrev pub words_from : List ℕ → ℕ → ℕ → List ℕ
words_from bs p zero = []
words_from bs p (suc n) = word_at bs p ∷ words_from bs (p + 2) n

module _ (bs : List ℕ) (low : (i : ℕ) → get_or bs i 0 < 256) where
  high_byte : (p : ℕ) → get_or bs p 0 ≡ word_at bs p / 256
  high_byte p = let a = low (p + 1) in omega arith

  low_byte : (p : ℕ) → get_or bs (p + 1) 0 ≡ word_at bs p % 256
  low_byte p = let a = low (p + 1) in omega arith

  word_there : (p : ℕ) → p + 2 ≤ length bs → drop p bs ≡ word_at bs p / 256 ∷ (word_at bs p % 256 ∷ drop (p + 2) bs)
  word_there p fit =
      let a = drop_more bs p 0 (omega arith) in
      let b = drop_more bs (p + 1) 0 (omega arith) in
      let e : p + 1 + 1 ≡ p + 2 = omega arith in
      let h = high_byte p in
      let t = low_byte p in
      a ∙ ap (λ x. x ∷ drop (p + 1) bs) h ∙ ap (λ xs. word_at bs p / 256 ∷ xs) (b ∙ ap (λ x. x ∷ drop (p + 1 + 1) bs) t ∙ ap (λ q. word_at bs p % 256 ∷ drop q bs) e)

  pub words_there : (n p : ℕ) → p + 2 * n ≤ length bs → drop p bs ≡ bytes_of (words_from bs p n) ++ drop (p + 2 * n) bs
  words_there zero p fit = ap (λ q. drop q bs) (sym (add-zero p))
  words_there (suc n) p fit =
      let e : p + 2 + 2 * n ≡ p + 2 * suc n = omega arith in
      word_there p (omega arith)
      ∙ ap (λ xs. word_at bs p / 256 ∷ (word_at bs p % 256 ∷ xs)) (words_there n (p + 2) (omega arith) ∙ ap (λ q. bytes_of (words_from bs (p + 2) n) ++ drop q bs) e)

  -- k records of w bytes each, from p on, the record j at p + w * j
  records : {X : Type 0} (h : X → List ℕ) (f : ℕ → X) (w p k i : ℕ)
      → ((j : ℕ) → i ≤ j → j < i + k → drop (p + w * j) bs ≡ bytes_of (h (f j)) ++ drop (p + w * j + w) bs)
      → drop (p + w * i) bs ≡ bytes_of (flat_map h (map f (range_with_len i k))) ++ drop (p + w * (i + k)) bs
  records h f w p zero i each = ap (λ j. drop (p + w * j) bs) (sym (add-zero i))
  records h f w p (suc k) i each =
      let m = mul-suc w i in
      let e : p + w * i + w ≡ p + w * (i + 1) = omega (arith, ap (λ j. w * j) (add-one i)) in
      let z : i + 1 + k ≡ i + suc k = omega arith in
      let rest = records h f w p k (i + 1) (λ j a b. each j (omega arith) (omega arith)) in
      each i (omega arith) (omega arith)
      ∙ ap (λ xs. bytes_of (h (f i)) ++ xs) (ap (λ q. drop q bs) e ∙ rest ∙ ap (λ j. bytes_of (flat_map h (map f (range_with_len (i + 1) k))) ++ drop (p + w * j) bs) z)
      ∙ sym (append_assoc (bytes_of (h (f i))) (bytes_of (flat_map h (map f (range_with_len (i + 1) k)))) (drop (p + w * (i + suc k)) bs))
      ∙ ap (λ xs. xs ++ drop (p + w * (i + suc k)) bs) (sym (bytes_append (h (f i)) (flat_map h (map f (range_with_len (i + 1) k)))))

  -- a section: its first word, and k records
  pub section : {X : Type 0} (h : X → List ℕ) (f : ℕ → X) (w p k : ℕ) → p + 2 ≤ length bs
      → ((j : ℕ) → j < k → drop (p + 2 + w * j) bs ≡ bytes_of (h (f j)) ++ drop (p + 2 + w * j + w) bs)
      → drop p bs ≡ bytes_of (word_at bs p ∷ flat_map h (numbered k f)) ++ drop (p + 2 + w * k) bs
  section h f w p k fit each =
      let zero-at : p + 2 ≡ p + 2 + w * 0 = omega (arith, mul-zero w) in
      let to-k : 0 + k ≡ k = omega arith in
      word_there p fit
      ∙ ap (λ xs. word_at bs p / 256 ∷ (word_at bs p % 256 ∷ xs))
      (ap (λ q. drop q bs) zero-at ∙ records h f w (p + 2) k 0 (λ j a b. each j (omega arith)) ∙ ap (λ j. bytes_of (flat_map h (numbered k f)) ++ drop (p + 2 + w * j) bs) to-k)

-- a word of the bytes, and how many they are
pub bytes_word : (ws : List ℕ) (i : ℕ) → word_at (bytes_of ws) (2 * i) ≡ get_or ws i 0
bytes_word [] i = refl
bytes_word (w ∷ ws) zero = omega arith
bytes_word (w ∷ ws) (suc i) =
    let e : 2 * suc i ≡ suc (suc (2 * i)) = omega arith in
    let f : suc (suc (2 * i)) + 1 ≡ suc (suc (2 * i + 1)) = omega arith in
    ap (word_at (bytes_of (w ∷ ws))) e ∙ ap (λ j. get_or (bytes_of ws) (2 * i) 0 * 256 + get_or (bytes_of (w ∷ ws)) j 0) f ∙ bytes_word ws i

pub length_bytes : (ws : List ℕ) → length (bytes_of ws) ≡ 2 * length ws
length_bytes [] = refl
length_bytes (w ∷ ws) = let e = length_bytes ws in omega arith
