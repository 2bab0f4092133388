-- A table file written down from its records and values, in the format's order.
--     row_words r     variable a, variable b, m, start
--     table_bytes f   header, count of records, records, count of values, values
use Rattle.std.specs.Prelude.{ℕ, List, [], ◌∷◌, ◌++◌, length}
use Rattle.std.specs.List.{flat_map}
use Rattle.words.specs.Headers.{headed}
use Rattle.words.specs.Words.{bytes_of}
use Rattle.table.specs.Files.{Contents}
use Rattle.table.specs.declared.record.Record.{Record}

abbrev pub row_words : Record → List ℕ
row_words r = r.a ∷ (r.b ∷ (r.m ∷ (r.start ∷ [])))

abbrev pub table_bytes : Contents → List ℕ
table_bytes f = headed (bytes_of (length f.records ∷ (flat_map row_words f.records ++ (length f.values ∷ f.values))))
