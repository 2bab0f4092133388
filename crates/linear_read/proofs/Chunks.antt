-- Words by the bytes that hold them, where a part of the bytes is taken two or four at a time. Assumes nothing.
use Rattle.std.proofs.Common.{◌≡◌, ℕ, zero, suc, ◌+◌, ◌*◌, ◌<◌, ◌≤◌, List, [], get_or, take, drop, ap, ◌∙◌, arith}
use Rattle.std.proofs.lemmas.List.{get_or-take, get_or-drop}
use Rattle.std.specs.Simd.{first_chunks}
use Rattle.words.specs.Words.{word_at}
use Rattle.linear.specs.Reading.{entry_of}
use Rattle.linear.proofs.Rows.{entry_at}

part_byte : (bs : List ℕ) (p m k : ℕ) → k < m → get_or (take m (drop p bs)) k 0 ≡ get_or bs (p + k) 0
part_byte bs p m k lt = get_or-take m (drop p bs) k 0 lt ∙ get_or-drop p bs k 0

two_byte : (xs : List ℕ) (n i j : ℕ) → i < n → j < 2 → get_or (get_or (first_chunks 2 n xs) i []) j 0 ≡ get_or xs (2 * i + j) 0
two_byte xs zero i j lt low = absurd (omega arith)
two_byte xs (suc n) zero j lt low = get_or-take 2 xs j 0 low ∙ ap (λ k. get_or xs k 0) (omega arith)
two_byte xs (suc n) (suc i) j lt low =
    two_byte (drop 2 xs) n i j (omega arith) low ∙ get_or-drop 2 xs (2 * i + j) 0 ∙ ap (λ k. get_or xs k 0) (omega arith)

four_byte : (xs : List ℕ) (n i j : ℕ) → i < n → j < 4 → get_or (get_or (first_chunks 4 n xs) i []) j 0 ≡ get_or xs (4 * i + j) 0
four_byte xs zero i j lt low = absurd (omega arith)
four_byte xs (suc n) zero j lt low = get_or-take 4 xs j 0 low ∙ ap (λ k. get_or xs k 0) (omega arith)
four_byte xs (suc n) (suc i) j lt low =
    four_byte (drop 4 xs) n i j (omega arith) low ∙ get_or-drop 4 xs (4 * i + j) 0 ∙ ap (λ k. get_or xs k 0) (omega arith)

-- the word by the i-th two bytes of a part at p
pub two_word : (bs : List ℕ) (p m n i w : ℕ) (ws : List (List ℕ)) → ws ≡ first_chunks 2 n (take m (drop p bs)) → i < n → 2 * n ≤ m → w ≡ get_or (get_or ws i []) 0 0 * 256 + get_or (get_or ws i []) 1 0 → w ≡ word_at bs (p + 2 * i)
two_word bs p m n i w ws same lt short is =
    let part = take m (drop p bs) in
    let high : get_or (get_or ws i []) 0 0 ≡ get_or bs (p + 2 * i) 0 = rw same (two_byte part n i 0 lt (omega arith) ∙ part_byte bs p m (2 * i + 0) (omega arith) ∙ ap (λ k. get_or bs k 0) (omega arith)) in
    let low : get_or (get_or ws i []) 1 0 ≡ get_or bs (p + 2 * i + 1) 0 = rw same (two_byte part n i 1 lt (omega arith) ∙ part_byte bs p m (2 * i + 1) (omega arith) ∙ ap (λ k. get_or bs k 0) (omega arith)) in
    omega arith

-- and a word within the i-th four bytes
pub four_word : (bs : List ℕ) (p m n i j : ℕ) (ws : List (List ℕ)) → ws ≡ first_chunks 4 n (take m (drop p bs)) → i < n → 4 * n ≤ m → j < 3 → word_at (get_or ws i []) j ≡ word_at bs (p + 4 * i + j)
four_word bs p m n i j ws same lt short within =
    let part = take m (drop p bs) in
    let high : get_or (get_or ws i []) j 0 ≡ get_or bs (p + 4 * i + j) 0 = rw same (four_byte part n i j lt (omega arith) ∙ part_byte bs p m (4 * i + j) (omega arith) ∙ ap (λ k. get_or bs k 0) (omega arith)) in
    let low : get_or (get_or ws i []) (j + 1) 0 ≡ get_or bs (p + 4 * i + j + 1) 0 = rw same (four_byte part n i (j + 1) lt (omega arith) ∙ part_byte bs p m (4 * i + (j + 1)) (omega arith) ∙ ap (λ k. get_or bs k 0) (omega arith)) in
    omega arith

-- and the entry by the i-th four bytes
pub four_entry : (bs : List ℕ) (p m n i : ℕ) (ws : List (List ℕ)) → ws ≡ first_chunks 4 n (take m (drop p bs)) → i < n → 4 * n ≤ m → entry_of (word_at (get_or ws i []) 0) (word_at (get_or ws i []) 2) ≡ entry_at bs (p + 4 * i)
four_entry bs p m n i ws same lt short =
    let first : word_at (get_or ws i []) 0 ≡ word_at bs (p + 4 * i) = four_word bs p m n i 0 ws same lt short (omega arith) ∙ ap (word_at bs) (omega arith) in
    let second : word_at (get_or ws i []) 2 ≡ word_at bs (p + 4 * i + 2) = four_word bs p m n i 2 ws same lt short (omega arith) in
    ap (λ w. entry_of w (word_at (get_or ws i []) 2)) first ∙ ap (entry_of (word_at bs (p + 4 * i))) second
