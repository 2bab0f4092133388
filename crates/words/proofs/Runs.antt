-- A run of words read from bytes stands for those bytes. Assumes nothing.
use Rattle.std.proofs.Common.{◌≡◌, ℕ, ◌+◌, ◌/◌, ◌%◌, ◌<◌, ◌≤◌, List, [], ◌∷◌, ◌++◌, length, get_or, drop, sym, refl, ap, ◌∙◌, append_assoc, arith}
use Rattle.std.proofs.lemmas.List.{drop_more}
use Rattle.words.specs.Words.{word_at, bytes_of, Bytes}

pub bytes_append : (xs ys : List ℕ) → bytes_of (xs ++ ys) ≡ bytes_of xs ++ bytes_of ys
bytes_append [] ys = refl
bytes_append (x ∷ xs) ys = ap (λ bs. x / 256 ∷ (x % 256 ∷ bs)) (bytes_append xs ys)

-- the bytes from p on are those of the word at p, then those from p + 2 on
pub word_run : (bs : List ℕ) (p : ℕ) → Bytes bs → p + 2 ≤ length bs → drop p bs ≡ bytes_of (word_at bs p ∷ []) ++ drop (p + 2) bs
word_run bs p low le =
    let a = get_or bs p 0 in
    let b = get_or bs (p + 1) 0 in
    let la : a < 256 = low p in
    let lb : b < 256 = low (p + 1) in
    let high : a ≡ word_at bs p / 256 = omega arith in
    let rest : b ≡ word_at bs p % 256 = omega arith in
    let on : p + 1 + 1 ≡ p + 2 = omega arith in
    drop_more bs p 0 (omega arith)
    ∙ ap (λ r. a ∷ r) (drop_more bs (p + 1) 0 (omega arith))
    ∙ ap (λ q. a ∷ (b ∷ drop q bs)) on
    ∙ ap (λ x. x ∷ (b ∷ drop (p + 2) bs)) high
    ∙ ap (λ x. word_at bs p / 256 ∷ (x ∷ drop (p + 2) bs)) rest

-- a run behind a run
pub runs_join : (bs : List ℕ) (xs ys : List ℕ) (p q r : ℕ) → drop p bs ≡ bytes_of xs ++ drop q bs → drop q bs ≡ bytes_of ys ++ drop r bs → drop p bs ≡ bytes_of (xs ++ ys) ++ drop r bs
runs_join bs xs ys p q r first second =
    first ∙ ap (λ d. bytes_of xs ++ d) second ∙ sym (append_assoc (bytes_of xs) (bytes_of ys) (drop r bs)) ∙ ap (λ b. b ++ drop r bs) (sym (bytes_append xs ys))

two_run : (bs : List ℕ) (p : ℕ) → Bytes bs → p + 4 ≤ length bs → drop p bs ≡ bytes_of (word_at bs p ∷ (word_at bs (p + 2) ∷ [])) ++ drop (p + 4) bs
two_run bs p low le =
    let on : p + 2 + 2 ≡ p + 4 = omega arith in
    runs_join bs (word_at bs p ∷ []) (word_at bs (p + 2) ∷ []) p (p + 2) (p + 4) (word_run bs p low (omega arith))
    (word_run bs (p + 2) low (omega arith) ∙ ap (λ q. bytes_of (word_at bs (p + 2) ∷ []) ++ drop q bs) on)

-- a record of four words
pub four_run : (bs : List ℕ) (p : ℕ) → Bytes bs → p + 8 ≤ length bs → drop p bs ≡ bytes_of (word_at bs p ∷ (word_at bs (p + 2) ∷ (word_at bs (p + 4) ∷ (word_at bs (p + 6) ∷ [])))) ++ drop (p + 8) bs
four_run bs p low le =
    let six : p + 4 + 2 ≡ p + 6 = omega arith in
    let on : p + 4 + 4 ≡ p + 8 = omega arith in
    runs_join bs (word_at bs p ∷ (word_at bs (p + 2) ∷ [])) (word_at bs (p + 4) ∷ (word_at bs (p + 6) ∷ [])) p (p + 4) (p + 8) (two_run bs p low (omega arith))
    (two_run bs (p + 4) low (omega arith) ∙ ap (λ q. bytes_of (word_at bs (p + 4) ∷ (word_at bs q ∷ [])) ++ drop (p + 4 + 4) bs) six ∙ ap (λ q. bytes_of (word_at bs (p + 4) ∷ (word_at bs (p + 6) ∷ [])) ++ drop q bs) on)
