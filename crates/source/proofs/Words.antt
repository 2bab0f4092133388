-- Words written as bytes and read again.
use Rattle.std.proofs.Common.{◌≡◌, ℕ, zero, suc, ◌+◌, ◌*◌, ◌/◌, ◌%◌, List, [], ◌∷◌, map, length, get_or, refl, ap, ◌∙◌, ap₂, mul-suc, arith}
use Rattle.std.specs.List.{range_with_len}
use Rattle.std.proofs.lemmas.List.{ext_get_or}
use Rattle.std.proofs.lemmas.List.FromFn.{length-map-range_with_len, get_or-map-range_with_len}
use Rattle.words.specs.Words.{word_at}
use Rattle.words.specs.Words.{bytes_of}
use Rattle.source.specs.Nodes.{words_in}

byte_count : (es : List ℕ) → length (bytes_of es) ≡ 2 * length es
byte_count [] = refl
byte_count (e ∷ es) = let ih = byte_count es in omega (arith, mul-suc 2 (length es))

word_back : (es : List ℕ) (i : ℕ) → word_at (bytes_of es) (2 * i) ≡ get_or es i 0
word_back [] i = refl
word_back (e ∷ es) zero = let q : e / 256 * 256 + e % 256 ≡ e = omega arith in q
word_back (e ∷ es) (suc i) =
    let q : 2 * suc i ≡ suc (suc (2 * i)) = omega (arith, mul-suc 2 i) in
    let r : 2 * suc i + 1 ≡ suc (suc (2 * i + 1)) = omega (arith, mul-suc 2 i) in
    ap₂ (λ a b. get_or (bytes_of (e ∷ es)) a 0 * 256 + get_or (bytes_of (e ∷ es)) b 0) q r ∙ word_back es i

pub words_back : (es : List ℕ) → words_in (bytes_of es) ≡ es
words_back es =
    let n : length (bytes_of es) / 2 ≡ length es = omega (arith, byte_count es) in
    ap (λ k. map (λ i. word_at (bytes_of es) (2 * i)) (range_with_len 0 k)) n
    ∙ ext_get_or 0 _ es (length-map-range_with_len _ 0 (length es)) (λ i l. get_or-map-range_with_len (λ i. word_at (bytes_of es) (2 * i)) 0 (length es) i i 0 (omega (arith, length-map-range_with_len (λ i. word_at (bytes_of es) (2 * i)) 0 (length es))) (omega arith) ∙ word_back es i)
