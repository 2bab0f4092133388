-- A table by its records and values. Assumes nothing.
--     ruled r                a record keeps the rules: variables 0 to 15, m from 1 to 256
--     lawful rs              each of the records does
--     place_of r v           where a record looks under the valuation v
--     entry_at es p          value p, or 0 where there is none
--     meaning_of rs es       the language of the records, over the values
use Rattle.std.specs.Prelude.{ℕ, ◌+◌, ◌*◌, Bool, false, cond, ◌&&◌, ◌||◌, List, length, ◌==◌, nat_le, nat_lt, slice_index, slice_index_or}
use Rattle.language.specs.Files.{every}
use Rattle.language.specs.Meanings.{Meaning, value_at, word}
use Rattle.table.specs.declared.record.Record.{Record}

abbrev pub no_record : Record
no_record = record { a = 0; b = 0; m = 0; start = 0 }

abbrev pub record_at : List Record → ℕ → Record
record_at rs e = slice_index_or rs e no_record

abbrev pub ruled : Record → Bool
ruled r = nat_lt r.a 16 && nat_lt r.b 16 && nat_le 1 r.m && nat_le r.m 256

abbrev pub lawful : List Record → Bool
lawful rs = every (λ k. ruled (record_at rs k)) (length rs)

abbrev pub place_of : Record → List ℕ → ℕ
place_of r v = r.start + value_at v r.a * r.m + value_at v r.b

abbrev pub entry_at : List ℕ → ℕ → ℕ
entry_at es p = cond (nat_lt p (length es)) (word (slice_index es p)) 0

abbrev pub table_value : List Record → List ℕ → ℕ → List ℕ → ℕ
table_value rs es e v = cond (nat_lt e (length rs)) (entry_at es (place_of (record_at rs e) v)) 0

abbrev pub table_names : List Record → ℕ → ℕ → Bool
table_names rs e x = cond (nat_lt e (length rs)) ((record_at rs e).a == x || (record_at rs e).b == x) false

abbrev pub meaning_of : List Record → List ℕ → Meaning
meaning_of rs es = record { count = length rs; value = table_value rs es; names = table_names rs }
