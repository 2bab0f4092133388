-- Words laid one part after another. Assumes nothing.
use Rattle.std.proofs.Common.{◌≡◌, ℕ, suc, ◌+◌, ◌-◌, ◌*◌, ◌/◌, ◌%◌, ◌<◌, ◌≤◌, ◌≢◌, List, [], ◌∷◌, ◌++◌, length, take, drop, set, sym, refl, ap, ◌∙◌, ⊎_elim, arith}
use Rattle.std.proofs.lemmas.Bool.{cases_lt}
use Rattle.std.proofs.lemmas.List.{append_assoc, length-set, set_comm, set-set, take_more_set, drop-set-lt, drop-drop, length-drop, take-append-drop, get_or_append_left, get_or_past, take_at}
use Rattle.words.specs.Headers.{version, four_bytes, headed}
use Rattle.words.specs.Put.{put_word}
use Rattle.words.specs.Words.{bytes_of, Bytes}
use Rattle.linear.proofs.Shows.{length_bytes}
use Rattle.linear.specs.Reading.{past}
use Rattle.linear_write.specs.Laid.{laid, topped, over}

pub laid_join : (bs ws vs : List ℕ) (p : ℕ) → laid bs p (ws ++ vs) ≡ laid (laid bs p ws) (past p ws) vs
laid_join bs [] vs p = let e : p ≡ p + 2 * 0 = omega arith in ap (λ q. laid bs q vs) e
laid_join bs (w ∷ ws) vs p =
    let e : p + 2 + 2 * length ws ≡ p + 2 * suc (length ws) = omega arith in
    laid_join (put_word bs p w) ws vs (p + 2) ∙ ap (λ q. laid (laid (put_word bs p w) (p + 2) ws) q vs) e

pub length_put : (bs : List ℕ) (p w : ℕ) → length (put_word bs p w) ≡ length bs
length_put bs p w = length-set (set bs p (w / 256)) (p + 1) (w % 256) ∙ length-set bs p (w / 256)

pub length_laid : (bs : List ℕ) (p : ℕ) (ws : List ℕ) → length (laid bs p ws) ≡ length bs
length_laid bs p [] = refl
length_laid bs p (w ∷ ws) = length_laid (put_word bs p w) (p + 2) ws ∙ length_put bs p w

-- a word put before what is laid may be put after it
put_swap : (bs : List ℕ) (p q v w : ℕ) → p + 2 ≤ q → put_word (put_word bs q w) p v ≡ put_word (put_word bs p v) q w
put_swap bs p q v w le =
    let a = v / 256 in
    let b = v % 256 in
    let c = w / 256 in
    let d = w % 256 in
    let n1 : q + 1 ≢ p = λ e. omega arith in
    let n2 : q ≢ p = λ e. omega arith in
    let n3 : q + 1 ≢ p + 1 = λ e. omega arith in
    let n4 : q ≢ p + 1 = λ e. omega arith in
    ap (λ l. set l (p + 1) b) (set_comm (set bs q c) (q + 1) p d a n1 ∙ ap (λ l. set l (q + 1) d) (set_comm bs q p c a n2))
    ∙ set_comm (set (set bs p a) q c) (q + 1) (p + 1) d b n3
    ∙ ap (λ l. set l (q + 1) d) (set_comm (set bs p a) q (p + 1) c b n4)

put_twice : (bs : List ℕ) (p v w : ℕ) → put_word (put_word bs p v) p w ≡ put_word bs p w
put_twice bs p v w =
    let ne : p + 1 ≢ p = λ e. omega arith in
    ap (λ l. set l (p + 1) (w % 256)) (set_comm (set bs p (v / 256)) (p + 1) p (v % 256) (w / 256) ne ∙ ap (λ l. set l (p + 1) (v % 256)) (set-set bs p (v / 256) (w / 256)))
    ∙ set-set (set bs p (w / 256)) (p + 1) (v % 256) (w % 256)

-- the count of a section, paid when it is closed
pub laid_paid : (bs ws : List ℕ) (p q v : ℕ) → p + 2 ≤ q → put_word (laid bs q ws) p v ≡ laid (put_word bs p v) q ws
laid_paid bs [] p q v le = refl
laid_paid bs (w ∷ ws) p q v le = laid_paid (put_word bs q w) ws p (q + 2) v (omega arith) ∙ ap (λ l. laid l (q + 2) ws) (put_swap bs p q v w le)

pub section_paid : (bs ws : List ℕ) (p n : ℕ) → put_word (laid (put_word bs p 0) (p + 2) ws) p n ≡ laid bs p (n ∷ ws)
section_paid bs ws p n = laid_paid (put_word bs p 0) ws p (p + 2) n (omega arith) ∙ ap (λ l. laid l (p + 2) ws) (put_twice bs p 0 n)

put_front : (bs : List ℕ) (p w : ℕ) → p + 2 ≤ length bs → take (p + 2) (put_word bs p w) ≡ take p bs ++ (w / 256 ∷ (w % 256 ∷ []))
put_front bs p w le =
    let one = set bs p (w / 256) in
    let long = length-set bs p (w / 256) in
    let e : p + 2 ≡ (p + 1) + 1 = omega arith in
    ap (λ n. take n (put_word bs p w)) e
    ∙ take_more_set one (p + 1) (w % 256) (omega arith)
    ∙ ap (λ l. l ++ (w % 256 ∷ [])) (take_more_set bs p (w / 256) (omega arith))
    ∙ append_assoc (take p bs) (w / 256 ∷ []) (w % 256 ∷ [])

put_back : (bs : List ℕ) (p w n : ℕ) → p + 2 ≤ n → drop n (put_word bs p w) ≡ drop n bs
put_back bs p w n le = drop-set-lt n (set bs p (w / 256)) (p + 1) (w % 256) (omega arith) ∙ drop-set-lt n bs p (w / 256) (omega arith)

-- what a buffer holds once words were laid
pub laid_is : (bs : List ℕ) (p : ℕ) (ws : List ℕ) → past p ws ≤ length bs → laid bs p ws ≡ take p bs ++ (bytes_of ws ++ drop (past p ws) bs)
laid_is bs p [] le = let e : p ≡ p + 2 * 0 = omega arith in sym (take-append-drop p bs) ∙ ap (λ n. take p bs ++ drop n bs) e
laid_is bs p (w ∷ ws) le =
    let long = length_put bs p w in
    let e : p + 2 + 2 * length ws ≡ p + 2 * suc (length ws) = omega arith in
    let rest = bytes_of ws ++ drop (p + 2 + 2 * length ws) (put_word bs p w) in
    laid_is (put_word bs p w) (p + 2) ws (omega arith)
    ∙ ap (λ l. l ++ rest) (put_front bs p w (omega arith))
    ∙ append_assoc (take p bs) (w / 256 ∷ (w % 256 ∷ [])) rest
    ∙ ap (λ l. take p bs ++ (w / 256 ∷ (w % 256 ∷ (bytes_of ws ++ l)))) (put_back bs p w (p + 2 + 2 * length ws) (omega arith) ∙ ap (λ n. drop n bs) e)

pub length_topped : (bs : List ℕ) (n : ℕ) → 5 ≤ length bs → length (topped bs n) ≡ length bs
length_topped bs n le = let cut = length-drop 5 bs in omega arith

topped_back : (bs : List ℕ) (n m : ℕ) → 5 ≤ m → drop m (topped bs n) ≡ drop m bs
topped_back bs n m le =
    let k : ℕ = m - 5 in
    let e : m ≡ 5 + k = omega arith in
    ap (λ j. drop j (topped bs n)) e ∙ sym (drop-drop k 5 (topped bs n)) ∙ drop-drop k 5 bs ∙ ap (λ j. drop j bs) (sym e)

-- a whole file laid under its header
pub file_laid : (bs ws : List ℕ) (n : ℕ) → n ≡ length (bytes_of ws) → 5 + n ≤ length bs → laid (topped bs n) 5 ws ≡ over (headed (bytes_of ws)) bs
file_laid bs ws n is le =
    let long = length_bytes ws in
    let same = length_topped bs n (omega arith) in
    let end : past 5 ws ≡ length (headed (bytes_of ws)) = omega arith in
    laid_is (topped bs n) 5 ws (omega arith)
    ∙ ap (λ l. l ++ (bytes_of ws ++ drop (past 5 ws) (topped bs n))) (ap (λ m. version ∷ four_bytes m) is)
    ∙ ap (λ l. headed (bytes_of ws) ++ l) (topped_back bs n (past 5 ws) (omega arith) ∙ ap (λ m. drop m bs) end)

pub front_bytes : (file rest : List ℕ) → Bytes (file ++ rest) → Bytes file
front_bytes file rest low i =
    ⊎_elim (λ (lt : i < length file). let e = get_or_append_left file rest 0 i lt in let l = low i in omega arith) (λ le. let e = get_or_past file i 0 le in omega arith) (cases_lt i (length file))

pub file_front : (file bs : List ℕ) (n : ℕ) → n ≡ length file → take n (over file bs) ≡ file
file_front file bs n e = take_at file (drop (length file) bs) n (sym e)
