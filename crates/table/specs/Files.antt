-- A table file: after the header a count of records, records of four words (variable a, variable b, m, start),
-- a count of values, and the values.
--     decoded k a b m s   record k by its words, or none where a word is off its rules
--     total_of bs n       how many values follow n records, or the fault from there on
--     words_from bs p t   t words from p on
--     table_file bs       the records and values of a file, or its first fault in file order
--     table_language bs   the language of a file
use Rattle.std.specs.Prelude.{ℕ, zero, suc, ◌+◌, ◌*◌, cond, List, [], ◌∷◌, ◌++◌, length, Some, None, Ok, Err, Option, Result, ◌==◌, nat_le, nat_lt}
use Rattle.words.specs.Words.{word_at}
use Rattle.language.specs.Files.{then, record_place, records_of}
use Rattle.language.specs.Meanings.{Meaning}
use Rattle.language.specs.declared.fault.DataFault.{DataFault}
use Rattle.language.specs.declared.fault.DataFault.TheVariants.{Length, Rule}
use Rattle.table.specs.Records.{ruled, meaning_of}
use Rattle.table.specs.declared.record.Record.{Record}

-- where the values begin after n records
abbrev pub values_place : ℕ → ℕ
values_place n = 9 + 8 * n

abbrev pub decoded : ℕ → ℕ → ℕ → ℕ → ℕ → Option Record
decoded k a b m start =
    cond (ruled (record { a = a; b = b; m = m; start = start })) (Some (record { a = a; b = b; m = m; start = start })) None

abbrev pub total_of : List ℕ → ℕ → Result ℕ DataFault
total_of bs n =
    cond (nat_lt (length bs) (record_place n + 2)) (Err (Length 0))
    (cond (nat_le (word_at bs (record_place n)) 4096)
    (cond (length bs == values_place n + 2 * word_at bs (record_place n)) (Ok (word_at bs (record_place n))) (Err (Length 0)))
    (Err (Rule 0)))

abbrev pub words_from : List ℕ → ℕ → ℕ → List ℕ
words_from bs p zero = []
words_from bs p (suc t) = words_from bs p t ++ (word_at bs (p + 2 * t) ∷ [])

pub record Contents : Type 0 where
  pub records : List Record
  pub values : List ℕ

abbrev pub table_file : List ℕ → Result Contents DataFault
table_file bs =
    then (records_of decoded bs) (λ rs.
    then (total_of bs (length rs)) (λ t.
    Ok (record { records = rs; values = words_from bs (values_place (length rs)) t })))

abbrev pub table_language : List ℕ → Result Meaning DataFault
table_language bs = then (table_file bs) (λ (f : Contents). Ok (meaning_of f.records f.values))
