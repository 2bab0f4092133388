-- A word by the two bytes that hold it, where bytes are taken two at a time. Assumes nothing.
use Rattle.std.proofs.Common.{◌≡◌, ℕ, zero, suc, ◌+◌, ◌*◌, ◌<◌, ◌≤◌, List, [], get_or, take, drop, ap, ◌∙◌, arith}
use Rattle.std.proofs.lemmas.List.{get_or-take, get_or-drop}
use Rattle.std.specs.Simd.{first_chunks}
use Rattle.words.specs.Words.{word_at}

pair_byte : (xs : List ℕ) (n i j : ℕ) → i < n → j < 2 → get_or (get_or (first_chunks 2 n xs) i []) j 0 ≡ get_or xs (2 * i + j) 0
pair_byte xs zero i j lt low = absurd (omega arith)
pair_byte xs (suc n) zero j lt low = get_or-take 2 xs j 0 low ∙ ap (λ k. get_or xs k 0) (omega arith)
pair_byte xs (suc n) (suc i) j lt low =
    pair_byte (drop 2 xs) n i j (omega arith) low ∙ get_or-drop 2 xs (2 * i + j) 0 ∙ ap (λ k. get_or xs k 0) (omega arith)

part_byte : (bs : List ℕ) (p m k : ℕ) → k < m → get_or (take m (drop p bs)) k 0 ≡ get_or bs (p + k) 0
part_byte bs p m k lt = get_or-take m (drop p bs) k 0 lt ∙ get_or-drop p bs k 0

pub pair_word : (bs : List ℕ) (p m n i w : ℕ) (ws : List (List ℕ)) → ws ≡ first_chunks 2 n (take m (drop p bs)) → i < n → 2 * n ≤ m → w ≡ get_or (get_or ws i []) 0 0 * 256 + get_or (get_or ws i []) 1 0 → w ≡ word_at bs (p + 2 * i)
pair_word bs p m n i w ws same lt short is =
    let part = take m (drop p bs) in
    let high : get_or (get_or ws i []) 0 0 ≡ get_or bs (p + 2 * i) 0 = rw same (pair_byte part n i 0 lt (omega arith) ∙ part_byte bs p m (2 * i + 0) (omega arith) ∙ ap (λ k. get_or bs k 0) (omega arith)) in
    let low : get_or (get_or ws i []) 1 0 ≡ get_or bs (p + 2 * i + 1) 0 = rw same (pair_byte part n i 1 lt (omega arith) ∙ part_byte bs p m (2 * i + 1) (omega arith) ∙ ap (λ k. get_or bs k 0) (omega arith)) in
    omega arith
