-- Words in a list of bytes, high byte first. A byte beyond the end counts as 0.
--     word_at bs p   the word whose two bytes begin at p
--     long_at bs p   the number whose four bytes begin at p
--     bytes_of ws    words as bytes
--     Bytes bs       each element is a byte
use Rattle.std.specs.Prelude.{ℕ, ◌+◌, ◌*◌, ◌/◌, ◌%◌, ◌<◌, List, [], ◌∷◌, slice_index}

abbrev pub word_at : List ℕ → ℕ → ℕ
word_at bs p = slice_index bs p * 256 + slice_index bs (p + 1)

abbrev pub long_at : List ℕ → ℕ → ℕ
long_at bs p = word_at bs p * 65536 + word_at bs (p + 2)

abbrev pub bytes_of : List ℕ → List ℕ
bytes_of [] = []
bytes_of (w ∷ ws) = w / 256 ∷ (w % 256 ∷ bytes_of ws)

abbrev pub Bytes : List ℕ → Type 0
Bytes bs = (i : ℕ) → slice_index bs i < 256
