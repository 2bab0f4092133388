-- Words that stand one after another in a list of bytes. Assumes nothing.
use Rattle.std.proofs.Common.{◌≡◌, ℕ, zero, suc, ◌+◌, ◌*◌, List, [], ◌∷◌, ◌++◌, length, refl, ap, ◌∙◌, add-one, arith}
use Rattle.words.specs.Words.{word_at}
use Rattle.linear.specs.Reading.{words_from}

-- one word more at the end
words_end : (bs : List ℕ) (p n : ℕ) → words_from bs p (suc n) ≡ words_from bs p n ++ (word_at bs (p + 2 * n) ∷ [])
words_end bs p zero = let e : p ≡ p + 2 * 0 = omega arith in ap (λ q. word_at bs q ∷ []) e
words_end bs p (suc n) =
    let e : p + 2 + 2 * n ≡ p + 2 * suc n = omega arith in
    ap (λ ws. word_at bs p ∷ ws) (words_end bs (p + 2) n ∙ ap (λ q. words_from bs (p + 2) n ++ (word_at bs q ∷ [])) e)

pub words_more : (bs : List ℕ) (p n : ℕ) → words_from bs p (n + 1) ≡ words_from bs p n ++ (word_at bs (p + 2 * n) ∷ [])
words_more bs p n = rw add-one (words_end bs p n)

pub length_words : (bs : List ℕ) (p n : ℕ) → length (words_from bs p n) ≡ n
length_words bs p zero = refl
length_words bs p (suc n) = ap suc (length_words bs (p + 2) n)
