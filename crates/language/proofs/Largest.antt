-- The largest value, and what is said of it in words. Assumes nothing.
use Rattle.std.proofs.Common.{◌≡◌, ℕ, ◌<◌, ⊎_elim, arith}
use Rattle.std.proofs.lemmas.Bool.{cases_lt}
use Rattle.language.specs.Meanings.{word, AtMost}

pub word_at_most : (n : ℕ) → AtMost n (word n)
word_at_most n = (λ le. omega arith, λ lt. omega arith)

pub at_most_word : (n w : ℕ) → AtMost n w → word n ≡ w
at_most_word n w (low, high) =
    ⊎_elim (λ (lt : 65535 < n). let e = high lt in omega arith) (λ le. let e = low le in omega arith) (cases_lt 65535 n)
