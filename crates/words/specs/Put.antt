-- Words put into a list of bytes, high byte first. A byte beyond the end is left out.
--     put_word bs p w   the bytes with the word w at p
use Rattle.std.specs.Prelude.{ℕ, ◌+◌, ◌/◌, ◌%◌, List, slice_set}

abbrev pub put_word : List ℕ → ℕ → ℕ → List ℕ
put_word bs p w = slice_set (slice_set bs p (w / 256)) (p + 1) (w % 256)
