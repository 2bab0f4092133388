-- What a writer has written, one part after another. Assumes nothing.
use base.Fml.{GName}
use Rattle.std.proofs.Common.{◌≡◌, ℕ, ◌+◌, ◌<◌, ◌≤◌, List, [], ◌∷◌, ◌++◌, length, get_or, take, drop, sym, refl, ap, ◌∙◌, subst, arith, length-append, Ok, Err, Result, ltb}
use Rattle.std.specs.List.{flat_map}
use Rattle.std.specs.Prelude.{MatchResult}
use Rattle.std.proofs.lemmas.Bool.{cond-false, le-ltb}
use Rattle.std.proofs.lemmas.List.{take_more, drop_more, take-append-drop, flat_map_more}
use Rattle.std.proofs.lemmas.Grind.{flat_map-append}
use Rattle.linear.specs.Reading.{past}
use Rattle.words.specs.Words.{bytes_of}
use Rattle.linear.proofs.Shows.{length_bytes}
use Rattle.linear_write.specs.Laid.{topped}
use Rattle.linear_write.specs.declared.fault.WriteFault.{WriteFault}
use Rattle.linear_write.specs.declared.fault.WriteFault.TheVariants.{Short}
use Rattle.linear_write.specs.Written.{Put, after, paid, add_answer, add_leaves, HasRoom}
use Rattle.linear_write.proofs.Laying.{laid_join, length_laid, section_paid, length_topped}

pub made : {a b : List ℕ} {m n : ℕ} (g : GName) → a ≡ b → m ≡ n → ◌≡◌ {A = Put} (record { out = a; at = m; lender = g }) (record { out = b; at = n; lender = g })
made {a} {b} {m} {n} g e f =
    let one : List ℕ → Put = λ o. record { out = o; at = m; lender = g } in
    let two : ℕ → Put = λ q. record { out = b; at = q; lender = g } in
    ap one e ∙ ap two f

joined : (s : Put) (ws vs : List ℕ) → after (after s ws) vs ≡ after s (ws ++ vs)
joined s ws vs = let long = length-append ws vs in made s.lender (sym (laid_join s.out ws vs s.at)) (omega arith)

-- a part and what is put after it
pub step : (s : Put) {t u : Put} (ws vs : List ℕ) → t ≡ after s ws → u ≡ after t vs → u ≡ after s (ws ++ vs)
step s ws vs e f = f ∙ (ap (λ y. after y vs) e ∙ joined s ws vs)

pub room_first : (s : Put) (ws vs : List ℕ) → HasRoom s (ws ++ vs) → HasRoom s ws
room_first s ws vs h = let long = length-append ws vs in omega arith

pub room_then : (s : Put) {t : Put} (ws vs : List ℕ) → HasRoom s (ws ++ vs) → t ≡ after s ws → HasRoom t vs
room_then s ws vs h e =
    let long = length-append ws vs in
    let same = length_laid s.out s.at ws in
    let P : Put → Type 0 = λ y. HasRoom y vs in
    let there : HasRoom (after s ws) vs = omega arith in
    subst P (sym e) there

module _ {X : Type 0} (xs : List X) (k : ℕ) (x : X) (lt : k < length xs) (is : get_or xs k x ≡ x) where
  take_next : take k xs ++ (x ∷ []) ≡ take (k + 1) xs
  take_next = sym (take_more xs k x lt ∙ ap (λ y. take k xs ++ (y ∷ [])) is)

  split : xs ≡ take k xs ++ (x ∷ drop (k + 1) xs)
  split = sym (ap (λ l. take k xs ++ l) (sym (drop_more xs k x lt ∙ ap (λ y. y ∷ drop (k + 1) xs) is)) ∙ take-append-drop k xs)

  module _ (f : X → List ℕ) (s t : Put) (here : t ≡ after s (flat_map f (take k xs))) where
    -- one record more, of those that a function gives words to
    pub row_room : HasRoom s (flat_map f xs) → HasRoom t (f x)
    row_room h =
        let rest = flat_map f (drop (k + 1) xs) in
        let all : flat_map f xs ≡ flat_map f (take k xs) ++ (f x ++ rest) = ap (flat_map f) split ∙ flat_map-append f (take k xs) (x ∷ drop (k + 1) xs) in
        let P : List ℕ → Type 0 = λ ws. HasRoom s ws in
        room_first t (f x) rest (room_then s (flat_map f (take k xs)) (f x ++ rest) (subst P all h) here)

    pub row_step : {u : Put} → u ≡ after t (f x) → u ≡ after s (flat_map f (take (k + 1) xs))
    row_step e = step s (flat_map f (take k xs)) (f x) here e ∙ ap (after s) (flat_map_more f [] (take k xs) x ∙ ap (flat_map f) take_next)

-- where a section was opened and filled so far, there is room for one record more
pub fits : {X : Type 0} (xs : List X) (f : X → List ℕ) (s : Put) {o t : Put} (k : ℕ) (x : X) → k < length xs → get_or xs k x ≡ x → HasRoom s (0 ∷ flat_map f xs) → o ≡ after s (0 ∷ []) → t ≡ after o (flat_map f (take k xs)) → HasRoom t (f x)
fits xs f s {o} {t} k x lt is room opened here = row_room xs k x lt is f o t here (room_then s (0 ∷ []) (flat_map f xs) room opened)

module _ (ws : List ℕ) (k : ℕ) (w : ℕ) (lt : k < length ws) (is : get_or ws k w ≡ w) (s t : Put) (here : t ≡ after s (take k ws)) where
  -- one word more
  pub word_room : HasRoom s ws → HasRoom t (w ∷ [])
  word_room h =
      let rest = drop (k + 1) ws in
      let P : List ℕ → Type 0 = λ vs. HasRoom s vs in
      room_first t (w ∷ []) rest (room_then s (take k ws) (w ∷ rest) (subst P (split ws k w lt is) h) here)

  pub word_step : {u : Put} → u ≡ after t (w ∷ []) → u ≡ after s (take (k + 1) ws)
  word_step e = step s (take k ws) (w ∷ []) here e ∙ ap (after s) (take_next ws k w lt is)

-- words are added where there is room for them
pub added : (s : Put) {t : Put} (ws : List ℕ) → HasRoom s ws → t ≡ add_leaves s ws → t ≡ after s ws
added s ws room e = e ∙ cond-false (ltb (length s.out) (past s.at ws)) s (after s ws) (le-ltb (length s.out) (past s.at ws) room)

pub add_fits : (s : Put) {r : Result (Unit {0}) WriteFault} (ws : List ℕ) → HasRoom s ws → r ≡ add_answer s ws → r ≡ Ok tt
add_fits s ws room e = e ∙ cond-false (ltb (length s.out) (past s.at ws)) (Err Short) (Ok tt) (le-ltb (length s.out) (past s.at ws) room)

-- what is added is counted
pub counted_one : {r : Result (Unit {0}) WriteFault} {m : ℕ} (n : ℕ) → r ≡ Ok tt → MatchResult r (λ _. m ≡ n + 1) (λ _. m ≡ n) → m ≡ n + 1
counted_one {r} {m} n all c = subst (λ (q : Result (Unit {0}) WriteFault). MatchResult q (λ _. m ≡ n + 1) (λ _. m ≡ n)) all c

-- a section that was opened and filled, once its count is paid
pub closed : (s : Put) (ws : List ℕ) (n : ℕ) {t u : Put} {place count : ℕ} → t ≡ after s (0 ∷ ws) → place ≡ s.at → count ≡ n → u ≡ paid t place count → u ≡ after s (n ∷ ws)
closed s ws n {t} {u} {place} {count} filled there many is =
    is
    ∙ ap (λ (y : Put). paid y place count) filled
    ∙ ap (λ q. paid (after s (0 ∷ ws)) q count) there
    ∙ ap (paid (after s (0 ∷ ws)) s.at) many
    ∙ made s.lender (section_paid s.out ws s.at n) refl

-- there is room for a file behind its header
pub file_room : {s : Put} (out ws : List ℕ) (n : ℕ) (g : GName) → s ≡ record { out = topped out n; at = 5; lender = g } → 5 + length (bytes_of ws) ≤ length out → HasRoom s ws
file_room out ws n g e le =
    let long = length_bytes ws in
    let same = length_topped out n (omega arith) in
    let P : Put → Type 0 = λ y. HasRoom y ws in
    let there : past 5 ws ≤ length (topped out n) = omega arith in
    subst P (sym e) there
