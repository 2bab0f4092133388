-- The places of a list that is made of items, that an item is pushed to, or that another item is put in. Assumes nothing.
use Rattle.std.proofs.Common.{◌≡◌, ℕ, suc, ◌+◌, ◌-◌, ◌<◌, ◌≤◌, List, [], ◌∷◌, ◌++◌, length, take, drop, replicate, sym, ap, ◌∙◌, arith, length-append}
use Rattle.std.proofs.Math.Seq.{set-append_seam, take-append_seam, take-set-lt}
use Rattle.std.proofs.lemmas.List.{drop-replicate, length-replicate, length-set, set-append_left, take_more_set, append_assoc}
use Rattle.std.specs.Prelude.{slice_set}
use Rattle.linear.specs.Places.{filled, item_count}

-- blank places are one blank more and the rest
blanks_more : {X : Type 0} (b : X) (n k : ℕ) → n ≡ suc k → replicate n b ≡ b ∷ replicate k b
blanks_more b n k is = ap (λ i. replicate i b) is

pub new_filled : {X : Type 0} (b : X) (m n : ℕ) (xs : List X) → length xs ≡ n → xs ++ drop n (replicate m b) ≡ filled b m (take n (xs ++ drop n (replicate m b)))
new_filled b m n xs long =
    let rest = drop n (replicate m b) in
    let front : take n (xs ++ rest) ≡ xs = ap (λ i. take i (xs ++ rest)) (sym long) ∙ take-append_seam xs rest in
    let blanks : rest ≡ replicate (m - length xs) b = drop-replicate n m b ∙ ap (λ i. replicate (m - i) b) (sym long) in
    ap (λ r. xs ++ r) blanks ∙ sym (ap (filled b m) front)

pub push_filled : {X : Type 0} (b x : X) (m n : ℕ) (ps : List X) → n < m → ps ≡ filled b m (take n ps) → slice_set ps n x ≡ filled b m (take (n + 1) (slice_set ps n x))
push_filled b x m n ps lt is =
    let xs = take n ps in
    let k = m - (n + 1) in
    let rest = replicate k b in
    let long : length xs ≡ n = item_count b m n ps (omega arith) is in
    let shape : ps ≡ xs ++ b ∷ rest = is ∙ ap (λ r. xs ++ r) (blanks_more b (m - length xs) k (omega (arith, long))) in
    let within : n < length ps = omega (arith, ap length is, length-append xs (replicate (m - length xs) b), length-replicate (m - length xs) b, long) in
    let put : slice_set ps n x ≡ xs ++ x ∷ rest = ap (λ l. slice_set l n x) shape ∙ ap (λ i. slice_set (xs ++ b ∷ rest) i x) (sym long) ∙ set-append_seam xs b rest x in
    let more : take (n + 1) (slice_set ps n x) ≡ xs ++ x ∷ [] = take_more_set ps n x within in
    let count : length (xs ++ x ∷ []) ≡ n + 1 = length-append xs (x ∷ []) ∙ ap (λ i. i + 1) long in
    let after : filled b m (xs ++ x ∷ []) ≡ xs ++ x ∷ rest = ap (λ i. (xs ++ x ∷ []) ++ replicate (m - i) b) count ∙ append_assoc xs (x ∷ []) rest in
    put ∙ sym after ∙ ap (filled b m) (sym more)

pub set_filled : {X : Type 0} (b x : X) (m n i : ℕ) (ps : List X) → n ≤ m → i < n → ps ≡ filled b m (take n ps) → slice_set ps i x ≡ filled b m (take n (slice_set ps i x))
set_filled b x m n i ps le lt is =
    let xs = take n ps in
    let rest = replicate (m - length xs) b in
    let within : i < length xs = omega (arith, item_count b m n ps le is) in
    let put : slice_set ps i x ≡ slice_set xs i x ++ rest = ap (λ l. slice_set l i x) is ∙ set-append_left xs rest i x within in
    let front : take n (slice_set ps i x) ≡ slice_set xs i x = take-set-lt n ps i x lt in
    let after : filled b m (slice_set xs i x) ≡ slice_set xs i x ++ rest = ap (λ k. slice_set xs i x ++ replicate (m - k) b) (length-set xs i x) in
    put ∙ sym after ∙ ap (filled b m) (sym front)
