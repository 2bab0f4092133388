-- The bytes of a data file by what is read from them. Assumes nothing.
use Rattle.std.proofs.Common.{◌≡◌, ℕ, zero, suc, ◌+◌, ◌≤◌, Bool, true, cond, ltb, leb, List, [], ◌∷◌, ◌++◌, length, get_or, drop, IfSome, IfOk, Some, None, Ok, Err, Option, Result, sym, refl, ap, ◌∙◌, append_assoc, add-zero, zero-add, arith}
use Rattle.std.proofs.lemmas.List.{append-nil}
use Rattle.std.proofs.lemmas.Bool.{cond_both, ltb-false}
use Rattle.std.proofs.lemmas.Option.{IfSome_then}
use Rattle.std.proofs.lemmas.Result.{IfOk-weaker}
use Rattle.std.specs.List.{flat_map}
use Rattle.words.specs.Headers.{header_of, headed}
use Rattle.words.specs.Words.{word_at, bytes_of, Bytes}
use Rattle.words.specs.declared.header.HeaderFault.{HeaderFault}
use Rattle.words.proofs.Headed.{header_rules}
use Rattle.words.proofs.Runs.{word_run, four_run, runs_join}
use Rattle.language.specs.Files.{then, or_data_fault, count_of, or_rule, record_place, record_at, records_of, every, rows, rows_from}
use Rattle.language.specs.declared.fault.DataFault.{DataFault}
use Rattle.language.specs.declared.fault.DataFault.TheVariants.{Length, Rule}
use Rattle.language.proofs.Rows.{Ruled, rows_ruled}

-- what holds of what is read, and then of what is made of it
pub made_then : {X Y : Type 0} (r : Result X DataFault) (f : X → Result Y DataFault) (P : X → Type 0) (Q : Y → Type 0) → IfOk r P → ((x : X) → P x → IfOk (f x) Q) → IfOk (then r f) Q
made_then (Ok x) f P Q h more = more x h
made_then (Err e) f P Q h more = tt

made_any : {X Y : Type 0} (r : Result X DataFault) (f : X → Result Y DataFault) (Q : Y → Type 0) → ((x : X) → IfOk (f x) Q) → IfOk (then r f) Q
made_any (Ok x) f Q more = more x
made_any (Err e) f Q more = tt

-- the count that is read is the word behind the header
module _ (bs : List ℕ) where
  abbrev Counted : ℕ → Type 0
  Counted n = (bs ≡ headed (drop 5 bs)) × (drop 5 bs ≡ bytes_of (n ∷ []) ++ drop 7 bs)

  abbrev count : Result ℕ DataFault
  count = cond (ltb (length bs) 7) (Err (Length 0)) (cond (leb (word_at bs 5) 256) (Ok (word_at bs 5)) (Err (Rule 0)))

  behind : Bytes bs → (h : Result (Unit {0}) HeaderFault) → header_of bs ≡ h → IfOk (then (or_data_fault h) (λ _. count)) Counted
  behind low (Err e) is = tt
  behind low (Ok u) is =
      cond_both (ltb (length bs) 7) (Err (Length 0)) _ (λ r. IfOk r Counted) (λ _. tt)
      (λ long. cond_both (leb (word_at bs 5) 256) (Ok (word_at bs 5)) (Err (Rule 0)) (λ r. IfOk r Counted)
      (λ _. ((header_rules bs low).0 is, word_run bs 5 low (ltb-false (length bs) 7 long)))
      (λ _. tt))

  count_run : Bytes bs → IfOk (count_of bs) Counted
  count_run low = behind low (header_of bs) refl

-- records read one after another are the bytes between where the first begins and the last ends
module _ {X : Type 0} (get : ℕ → Result X DataFault) (words_of : X → List ℕ) (place : ℕ → ℕ) (bs : List ℕ)
    (one : (k : ℕ) → IfOk (get k) (λ x. drop (place k) bs ≡ bytes_of (words_of x) ++ drop (place (k + 1)) bs)) where
  abbrev Ran : ℕ → ℕ → List X → List X → Type 0
  Ran n k xs all = (ys : List X) × ((all ≡ xs ++ ys) × ((length ys ≡ n) × (drop (place k) bs ≡ bytes_of (flat_map words_of ys) ++ drop (place (k + n)) bs)))

  more : (n k : ℕ) (xs all : List X) (x : X) → drop (place k) bs ≡ bytes_of (words_of x) ++ drop (place (k + 1)) bs → Ran n (k + 1) (xs ++ (x ∷ [])) all → Ran (suc n) k xs all
  more n k xs all x here (ys, (is, (long, run))) =
      let on : place (k + 1 + n) ≡ place (k + suc n) = ap place (omega arith) in (
        x ∷ ys,
        (
          is ∙ append_assoc xs (x ∷ []) ys,
          (
            ap suc long,
            runs_join bs (words_of x) (flat_map words_of ys) (place k) (place (k + 1)) (place (k + suc n)) here (run ∙ ap (λ q. bytes_of (flat_map words_of ys) ++ drop q bs) on),
          ),
        ),
      )

  more_ok : (n k : ℕ) (xs : List X) (x : X) (r : Result (List X) DataFault) → drop (place k) bs ≡ bytes_of (words_of x) ++ drop (place (k + 1)) bs → IfOk r (Ran n (k + 1) (xs ++ (x ∷ []))) → IfOk r (Ran (suc n) k xs)
  more_ok n k xs x (Ok all) here h = more n k xs all x here h
  more_ok n k xs x (Err e) here h = tt

  -- record k, where the others are given
  next : (n k : ℕ) (xs : List X) (r : Result X DataFault) → IfOk r (λ x. drop (place k) bs ≡ bytes_of (words_of x) ++ drop (place (k + 1)) bs)
      → ((ys : List X) → IfOk (rows_from get n (k + 1) ys) (Ran n (k + 1) ys)) → IfOk (then r (λ x. rows_from get n (k + 1) (xs ++ (x ∷ [])))) (Ran (suc n) k xs)
  next n k xs (Err e) h others = tt
  next n k xs (Ok x) h others = more_ok n k xs x (rows_from get n (k + 1) (xs ++ (x ∷ []))) h (others (xs ++ (x ∷ [])))

  rows_run : (n k : ℕ) (xs : List X) → IfOk (rows_from get n k xs) (Ran n k xs)
  rows_run zero k xs = ([], (sym (append-nil xs), (refl, ap (λ q. drop (place q) bs) (sym (add-zero k)))))
  rows_run (suc n) k xs = next n k xs (get k) (one k) (λ ys. rows_run n (k + 1) ys)

-- all records of a file, each by its four words
module _ {X : Type 0} (decoded : ℕ → ℕ → ℕ → ℕ → ℕ → Option X) (bs : List ℕ) where
  decoded_ok : (k : ℕ) (o : Option X) (P : X → Type 0) → IfSome o P → IfOk (or_rule k o) P
  decoded_ok k None P h = tt
  decoded_ok k (Some x) P h = h

  record_ok : (k : ℕ) (P : X → Type 0) → (record_place k + 8 ≤ length bs → IfSome (decoded k (word_at bs (record_place k)) (word_at bs (record_place k + 2)) (word_at bs (record_place k + 4)) (word_at bs (record_place k + 6))) P) → IfOk (record_at decoded bs k) P
  record_ok k P h =
      let p = record_place k in
      cond_both (ltb (length bs) (p + 8)) (Err (Length k)) _ (λ r. IfOk r P) (λ _. tt)
      (λ long. decoded_ok k _ P (h (ltb-false (length bs) (p + 8) long)))

  -- a rule that each decoded record keeps is kept by all
  pub records_ruled : (rule : ℕ → X → Bool) (d : X) → ((k a b c e : ℕ) → IfSome (decoded k a b c e) (λ x. rule k x ≡ true)) → IfOk (records_of decoded bs) (λ xs. every (λ i. rule i (get_or xs i d)) (length xs) ≡ true)
  records_ruled rule d one =
      made_any (count_of bs) (rows (record_at decoded bs)) _ (λ n.
      IfOk-weaker (rows (record_at decoded bs) n) (Ruled rule d (0 + n)) _ (λ xs (long, kept). rw long kept)
      (rows_ruled rule d (record_at decoded bs) (λ k. record_ok k (λ x. rule k x ≡ true) (λ _. one k _ _ _ _)) n 0 [] (refl, refl)))

  module _ (words_of : X → List ℕ) (spells : (k a b c e : ℕ) → IfSome (decoded k a b c e) (λ x. a ∷ (b ∷ (c ∷ (e ∷ []))) ≡ words_of x)) (low : Bytes bs) where
    abbrev IsAt : ℕ → X → Type 0
    IsAt k x = drop (record_place k) bs ≡ bytes_of (words_of x) ++ drop (record_place (k + 1)) bs

    record_run : (k : ℕ) → IfOk (record_at decoded bs k) (IsAt k)
    record_run k =
        let p = record_place k in
        let on : p + 8 ≡ record_place (k + 1) = omega arith in
        record_ok k (IsAt k) (λ long.
        let a = word_at bs p in
        let b = word_at bs (p + 2) in
        let c = word_at bs (p + 4) in
        let e = word_at bs (p + 6) in
        let run = four_run bs p low long ∙ ap (λ q. bytes_of (a ∷ (b ∷ (c ∷ (e ∷ [])))) ++ drop q bs) on in
        IfSome_then (decoded k a b c e) (spells k a b c e) (λ x is. run ∙ ap (λ ws. bytes_of ws ++ drop (record_place (k + 1)) bs) is))

    -- the file begins with its header, the number of records, and the records
    abbrev pub Recorded : List X → Type 0
    Recorded xs = (bs ≡ headed (drop 5 bs)) × (drop 5 bs ≡ bytes_of (length xs ∷ flat_map words_of xs) ++ drop (record_place (length xs)) bs)

    recorded : (n : ℕ) (xs : List X) → Counted bs n → Ran (record_at decoded bs) words_of record_place bs record_run n 0 [] xs → Recorded xs
    recorded n xs counted (ys, (is, (long, run))) =
        let joined = runs_join bs (n ∷ []) (flat_map words_of ys) 5 7 (record_place (0 + n)) counted.1 run ∙ ap (λ k. bytes_of (n ∷ flat_map words_of ys) ++ drop (record_place k) bs) (zero-add n) in
        (counted.0, rw (is, long) joined)

    pub records_run : IfOk (records_of decoded bs) Recorded
    records_run =
        made_then (count_of bs) (rows (record_at decoded bs)) (Counted bs) Recorded (count_run bs low) (λ n counted.
        IfOk-weaker (rows (record_at decoded bs) n) _ Recorded (λ xs ran. recorded n xs counted ran) (rows_run (record_at decoded bs) words_of record_place bs record_run n 0 []))
