-- The records and values of a file, written down, are its bytes. Assumes nothing.
use Rattle.std.proofs.Common.{◌≡◌, ℕ, zero, suc, ◌+◌, ◌*◌, ◌≤◌, eqb, ltb, leb, List, [], ◌∷◌, ◌++◌, length, drop, IfSome, IfOk, Some, None, Ok, Err, sym, refl, ap, ◌∙◌, arith}
use Rattle.std.proofs.lemmas.List.{append-nil, drop_all, length-append}
use Rattle.std.proofs.lemmas.Bool.{cond_both, eqb-true, ltb-false}
use Rattle.std.specs.List.{flat_map}
use Rattle.words.specs.Headers.{headed}
use Rattle.words.specs.Words.{word_at, bytes_of, Bytes}
use Rattle.words.proofs.Runs.{word_run, runs_join}
use Rattle.language.specs.Files.{record_place, records_of}
use Rattle.language.specs.declared.fault.DataFault.TheVariants.{Length, Rule}
use Rattle.language.proofs.Runs.{made_then, Recorded, records_run}
use Rattle.table.specs.Files.{values_place, decoded, total_of, words_from, table_file}
use Rattle.table.specs.Formats.{row_words, table_bytes}
use Rattle.table.specs.Records.{ruled}
use Rattle.table.specs.declared.record.Record.{Record}

words_long : (bs : List ℕ) (p t : ℕ) → length (words_from bs p t) ≡ t
words_long bs p zero = refl
words_long bs p (suc t) = length-append (words_from bs p t) (word_at bs (p + 2 * t) ∷ []) ∙ (let n = words_long bs p t in omega arith)

decoded_spells : (k a b m start : ℕ) → IfSome (decoded k a b m start) (λ r. a ∷ (b ∷ (m ∷ (start ∷ []))) ≡ row_words r)
decoded_spells k a b m start =
    let here : Record = record { a = a; b = b; m = m; start = start } in
    cond_both (ruled here) (Some here) None (λ o. IfSome o (λ r. a ∷ (b ∷ (m ∷ (start ∷ []))) ≡ row_words r)) (λ _. refl) (λ _. tt)

module _ (bs : List ℕ) (low : Bytes bs) where
  words_run : (p t : ℕ) → p + 2 * t ≤ length bs → drop p bs ≡ bytes_of (words_from bs p t) ++ drop (p + 2 * t) bs
  words_run p zero le = ap (λ q. drop q bs) (omega arith)
  words_run p (suc t) le =
      let on : p + 2 * t + 2 ≡ p + 2 * suc t = omega arith in
      runs_join bs (words_from bs p t) (word_at bs (p + 2 * t) ∷ []) p (p + 2 * t) (p + 2 * suc t) (words_run p t (omega arith))
      (word_run bs (p + 2 * t) low (omega arith) ∙ ap (λ q. bytes_of (word_at bs (p + 2 * t) ∷ []) ++ drop q bs) on)

  -- the count of values is the word behind the records, and the values are the rest
  abbrev Totalled : ℕ → ℕ → Type 0
  Totalled n t = (drop (record_place n) bs ≡ bytes_of (t ∷ []) ++ drop (values_place n) bs) × (length bs ≡ values_place n + 2 * t)

  total_run : (n : ℕ) → IfOk (total_of bs n) (Totalled n)
  total_run n =
      let p = record_place n in
      let t = word_at bs p in
      let on : p + 2 ≡ values_place n = omega arith in
      cond_both (ltb (length bs) (p + 2)) (Err (Length 0)) _ (λ r. IfOk r (Totalled n)) (λ _. tt)
      (λ long. cond_both (leb t 4096) _ (Err (Rule 0)) (λ r. IfOk r (Totalled n))
      (λ _. cond_both (eqb (length bs) (values_place n + 2 * t)) (Ok t) (Err (Length 0)) (λ r. IfOk r (Totalled n))
      (λ ends. (word_run bs p low (ltb-false (length bs) (p + 2) long) ∙ ap (λ q. bytes_of (t ∷ []) ++ drop q bs) on, eqb-true (length bs) (values_place n + 2 * t) ends))
      (λ _. tt))
      (λ _. tt))

  assembled : (rs : List Record) (t : ℕ) → Recorded decoded bs row_words decoded_spells low rs → Totalled (length rs) t → bs ≡ table_bytes (record { records = rs; values = words_from bs (values_place (length rs)) t })
  assembled rs t (head, records) (total, ends) =
      let n = length rs in
      let es = words_from bs (values_place n) t in
      let ws = n ∷ flat_map row_words rs in
      let last : drop (values_place n + 2 * t) bs ≡ [] = drop_all (values_place n + 2 * t) bs (omega arith) in
      let values = words_run (values_place n) t (omega arith) in
      let tail = runs_join bs (t ∷ []) es (record_place n) (values_place n) (values_place n + 2 * t) total values in
      let rest : drop 5 bs ≡ bytes_of (ws ++ (t ∷ es)) = runs_join bs ws (t ∷ es) 5 (record_place n) (values_place n + 2 * t) records tail ∙ ap (λ r. bytes_of (ws ++ (t ∷ es)) ++ r) last ∙ append-nil (bytes_of (ws ++ (t ∷ es))) in
      head ∙ ap headed (rest ∙ ap (λ k. bytes_of (ws ++ (k ∷ es))) (sym (words_long bs (values_place n) t)))

  -- the bytes of a file that is taken are those of its records and values
  pub file_bytes : IfOk (table_file bs) (λ f. bs ≡ table_bytes f)
  file_bytes =
      made_then (records_of decoded bs) _ (Recorded decoded bs row_words decoded_spells low) (λ f. bs ≡ table_bytes f) (records_run decoded bs row_words decoded_spells low) (λ rs recorded.
      made_then (total_of bs (length rs)) _ (Totalled (length rs)) (λ f. bs ≡ table_bytes f) (total_run (length rs)) (λ t totalled. assembled rs t recorded totalled))
