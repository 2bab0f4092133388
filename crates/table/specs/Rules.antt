-- What a table means, in words.
--     LooksUp es r v n   the record r finds n among the values es under the valuation v
--     Means f l          the language l has just what the records of f look up and name
--     ReadsAs bs l       the file bs holds records and values, no word of it read as another, and l has their meaning
use Rattle.std.specs.Prelude.{◌≡◌, ℕ, ◌+◌, ◌*◌, ◌<◌, ◌≤◌, true, ◌⊎◌, List, length, Ok, slice_index, slice_index_or}
use Rattle.words.specs.Headers.{Iff}
use Rattle.language.specs.Meanings.{Meaning, value_at, AtMost}
use Rattle.table.specs.Files.{Contents, table_file}
use Rattle.table.specs.Formats.{table_bytes}
use Rattle.table.specs.Records.{no_record}
use Rattle.table.specs.declared.record.Record.{Record}

abbrev pub IsRecord : List Record → ℕ → Record → Type 0
IsRecord rs e r = (e < length rs) × (slice_index_or rs e no_record ≡ r)

pub data LooksUp (es : List ℕ) (r : Record) (v : List ℕ) : ℕ → Type 0 where
  entry : (p n : ℕ) → p ≡ r.start + value_at v r.a * r.m + value_at v r.b → p < length es → AtMost (slice_index es p) n → LooksUp es r v n
  none : length es ≤ r.start + value_at v r.a * r.m + value_at v r.b → LooksUp es r v 0

pub record Means (f : Contents) (l : Meaning) : Type 0 where
  pub count : l.count ≡ length f.records
  pub value : (e : ℕ) (r : Record) → IsRecord f.records e r → (v : List ℕ) (n : ℕ) → Iff (l.value e v ≡ n) (LooksUp f.values r v n)
  pub names : (e : ℕ) (r : Record) → IsRecord f.records e r → (x : ℕ) → Iff (l.names e x ≡ true) ((r.a ≡ x) ⊎ (r.b ≡ x))

-- the file bs holds f: that is read from it, it is written down from that, and the language l has its meaning
pub record Reads (bs : List ℕ) (f : Contents) (l : Meaning) : Type 0 where
  pub file : table_file bs ≡ Ok f
  pub bytes : bs ≡ table_bytes f
  pub means : Means f l

abbrev pub ReadsAs : List ℕ → Meaning → Type 0
ReadsAs bs l = (f : Contents) × Reads bs f l
