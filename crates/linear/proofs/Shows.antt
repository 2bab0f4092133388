-- Bytes that show certain words from a position on. Assumes nothing.
--     Shows bs p ws   the words ws stand in bs from p on
use Rattle.std.proofs.Common.{◌≡◌, ℕ, suc, ◌+◌, ◌*◌, ◌/◌, ◌%◌, ◌<◌, ◌≤◌, true, ltb, List, [], ◌∷◌, ◌++◌, length, get_or, drop, sym, refl, ap, ◌∙◌, subst, arith}
use Rattle.std.proofs.lemmas.List.{get_or-drop, drop-drop, drop_more, drop_all, length-drop}
use Rattle.std.proofs.lemmas.Bool.{and_from, lt-ltb}
use Rattle.words.specs.Words.{word_at, bytes_of, Bytes}
use Rattle.linear.specs.Laws.{all}
use Rattle.linear.specs.Reading.{past}

abbrev pub Shows : List ℕ → ℕ → List ℕ → Type 0
Shows bs p [] = Unit {0}
Shows bs p (w ∷ ws) = (p + 2 ≤ length bs) × (word_at bs p ≡ w) × Shows bs (p + 2) ws

pub shows_at : (bs ws : List ℕ) (p q : ℕ) → p ≡ q → Shows bs p ws → Shows bs q ws
shows_at bs ws p q e h = let P : ℕ → Type 0 = λ n. Shows bs n ws in subst P e h

pub shows_join : (bs ws vs : List ℕ) (p : ℕ) → Shows bs p ws → Shows bs (past p ws) vs → Shows bs p (ws ++ vs)
shows_join bs [] vs p h k = shows_at bs vs (p + 2 * 0) p (omega arith) k
shows_join bs (w ∷ ws) vs p (room, is, h) k =
    (room, is, shows_join bs ws vs (p + 2) h (shows_at bs vs (p + 2 * suc (length ws)) (p + 2 + 2 * length ws) (omega arith) k))

pub shows_front : (bs ws vs : List ℕ) (p : ℕ) → Shows bs p (ws ++ vs) → Shows bs p ws
shows_front bs [] vs p h = tt
shows_front bs (w ∷ ws) vs p (room, is, h) = (room, is, shows_front bs ws vs (p + 2) h)

pub shows_back : (bs ws vs : List ℕ) (p : ℕ) → Shows bs p (ws ++ vs) → Shows bs (past p ws) vs
shows_back bs [] vs p h = shows_at bs vs p (p + 2 * 0) (omega arith) h
shows_back bs (w ∷ ws) vs p (room, is, h) = shows_at bs vs (p + 2 + 2 * length ws) (p + 2 * suc (length ws)) (omega arith) (shows_back bs ws vs (p + 2) h)

pub shows_room : (bs ws : List ℕ) (p : ℕ) → p ≤ length bs → Shows bs p ws → past p ws ≤ length bs
shows_room bs [] p le h = omega arith
shows_room bs (w ∷ ws) p le (room, is, h) = let r = shows_room bs ws (p + 2) room h in omega arith

-- the words that bytes show are words
pub shows_small : (bs : List ℕ) → Bytes bs → (ws : List ℕ) (p : ℕ) → Shows bs p ws → all (λ w. ltb w 65536) ws ≡ true
shows_small bs low [] p h = refl
shows_small bs low (w ∷ ws) p (room, is, h) =
    let a = low p in
    let b = low (p + 1) in
    and_from (ltb w 65536) (all (λ v. ltb v 65536) ws) (lt-ltb w 65536 (omega arith)) (shows_small bs low ws (p + 2) h)

pub length_bytes : (ws : List ℕ) → length (bytes_of ws) ≡ 2 * length ws
length_bytes [] = refl
length_bytes (w ∷ ws) = let e = length_bytes ws in omega arith

halves : (w : ℕ) → w / 256 * 256 + w % 256 ≡ w
halves w = omega arith

-- bytes that are those of the words show them
pub bytes_show : (bs ws : List ℕ) (p : ℕ) → drop p bs ≡ bytes_of ws → Shows bs p ws
bytes_show bs [] p e = tt
bytes_show bs (w ∷ ws) p e =
    let long : length (drop p bs) ≡ suc (suc (length (bytes_of ws))) = ap length e in
    let cut = length-drop p bs in
    let one : get_or bs p 0 ≡ w / 256 = let z : p + 0 ≡ p = omega arith in ap (λ n. get_or bs n 0) (sym z) ∙ sym (get_or-drop p bs 0 0) ∙ ap (λ l. get_or l 0 0) e in
    let two : get_or bs (p + 1) 0 ≡ w % 256 = sym (get_or-drop p bs 1 0) ∙ ap (λ l. get_or l 1 0) e in
    let rest : drop (p + 2) bs ≡ bytes_of ws = sym (drop-drop 2 p bs) ∙ ap (drop 2) e in
    let h = halves w in
    (omega arith, omega arith, bytes_show bs ws (p + 2) rest)

quotient : (a b w : ℕ) → b < 256 → a * 256 + b ≡ w → (a ≡ w / 256) × (b ≡ w % 256)
quotient a b w lt e = (omega arith, omega arith)

-- and the other way round, where nothing follows
pub show_bytes : (bs : List ℕ) → Bytes bs → (ws : List ℕ) (p : ℕ) → Shows bs p ws → past p ws ≡ length bs → drop p bs ≡ bytes_of ws
show_bytes bs low [] p h end = drop_all p bs (omega arith)
show_bytes bs low (w ∷ ws) p (room, is, h) end =
    let q = quotient (get_or bs p 0) (get_or bs (p + 1) 0) w (low (p + 1)) is in
    let one = drop_more bs p 0 (omega arith) in
    let two = drop_more bs (p + 1) 0 (omega arith) in
    let rest = show_bytes bs low ws (p + 2) h (omega arith) in
    let next : p + 1 + 1 ≡ p + 2 = omega arith in
    one
    ∙ ap (λ x. x ∷ drop (p + 1) bs) q.0
    ∙ ap (λ l. w / 256 ∷ l) (two ∙ ap (λ x. x ∷ drop (p + 1 + 1) bs) q.1 ∙ ap (λ n. w % 256 ∷ drop n bs) next ∙ ap (λ l. w % 256 ∷ l) rest)
