-- The header of a file.
--     header_of bs   whether the bytes begin with the header of a whole file, or why not
--     headed rest    the file whose bytes after the header are `rest`
use Rattle.std.specs.Prelude.{ℕ, ◌-◌, ◌/◌, ◌%◌, cond, not, ◌||◌, List, [], ◌∷◌, ◌++◌, length, Ok, Err, Result, ◌==◌, nat_lt, slice_index}
use Rattle.words.specs.Words.{long_at}
use Rattle.words.specs.declared.header.HeaderFault.{HeaderFault}
use Rattle.words.specs.declared.header.HeaderFault.TheVariants.{Version, Length}

abbrev pub version : ℕ
version = 1

-- the version byte first, then the length of the rest
abbrev pub header_of : List ℕ → Result (Unit {0}) HeaderFault
header_of bs =
    cond (length bs == 0 || not (slice_index bs 0 == version)) (Err Version)
    (cond (nat_lt (length bs) 5) (Err Length)
    (cond (long_at bs 1 == length bs - 5) (Ok tt) (Err Length)))

-- a number in four bytes, high byte first
abbrev pub four_bytes : ℕ → List ℕ
four_bytes n = n / 16777216 ∷ (n / 65536 % 256 ∷ (n / 256 % 256 ∷ (n % 256 ∷ [])))

abbrev pub headed : List ℕ → List ℕ
headed rest = version ∷ (four_bytes (length rest) ++ rest)

abbrev pub Iff : Type 0 → Type 0 → Type 0
Iff A B = (A → B) × (B → A)
