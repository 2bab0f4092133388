-- A file that grows word by word. Assumes nothing.
use Rattle.std.proofs.Common.{◌≡◌, ℕ, ◌+◌, ◌*◌, ◌/◌, ◌%◌, ◌^◌, ◌<◌, ◌≤◌, List, [], ◌∷◌, ◌++◌, length, get_or, take, sym, refl, ap, ◌∙◌, append_assoc, mul-suc, arith}
use Rattle.std.proofs.lemmas.List.{take_all, take_more}
use Rattle.words.specs.Headers.{headed, four_bytes}
use Rattle.words.specs.Words.{bytes_of}
use Rattle.words.proofs.Runs.{bytes_append}

byte_count : (ws : List ℕ) → length (bytes_of ws) ≡ 2 * length ws
byte_count [] = refl
byte_count (w ∷ ws) = let ih = byte_count ws in omega (arith, mul-suc 2 (length ws))

-- a word more
pub word_more : (head ws xs ys : List ℕ) (i : ℕ) → i < length ws → get_or ws i 0 < 2 ^ 16 → xs ≡ head ++ bytes_of (take i ws) → ys ≡ xs ++ (get_or ws i 0 / 256 % 256 ∷ (get_or ws i 0 % 256 ∷ [])) → ys ≡ head ++ bytes_of (take (i + 1) ws)
word_more head ws xs ys i lt low is put =
    let w = get_or ws i 0 in
    let high : w / 256 % 256 ≡ w / 256 = omega arith in
    put ∙ ap (λ b. xs ++ (b ∷ (w % 256 ∷ []))) high ∙ ap (λ s. s ++ bytes_of (w ∷ [])) is
    ∙ append_assoc head (bytes_of (take i ws)) (bytes_of (w ∷ []))
    ∙ ap (λ s. head ++ s) (sym (bytes_append (take i ws) (w ∷ [])) ∙ ap bytes_of (sym (take_more ws i 0 lt)))

-- all of the words behind the header
pub whole : (ws : List ℕ) (n : ℕ) (head ys : List ℕ) (i : ℕ) → length ws < 2 ^ 31 → length ws ≤ i
    → head ≡ (1 ∷ []) ++ (n / 16777216 % 256 ∷ (n / 65536 % 256 ∷ (n / 256 % 256 ∷ (n % 256 ∷ [])))) → n ≡ 2 * length ws → ys ≡ head ++ bytes_of (take i ws) → ys ≡ headed (bytes_of ws)
whole ws n head ys i low end is long more =
    let k : n / 16777216 % 256 ≡ n / 16777216 = omega arith in
    let m : n ≡ length (bytes_of ws) = omega (arith, byte_count ws) in
    more ∙ ap (λ s. head ++ bytes_of s) (take_all i ws end)
    ∙ ap (λ h. h ++ bytes_of ws) (is ∙ ap (λ b. 1 ∷ (b ∷ (n / 65536 % 256 ∷ (n / 256 % 256 ∷ (n % 256 ∷ []))))) k)
    ∙ ap (λ j. 1 ∷ (four_bytes j ++ bytes_of ws)) m
