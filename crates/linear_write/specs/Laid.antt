-- Words laid into a buffer, and what writing answers.
--     laid bs p ws       the bytes with the words ws from p on
--     topped bs n        the bytes with the header of a file whose rest has n bytes in front
--     over file bs       the file in front of what the buffer has beyond it
--     write_answer n m   whether a file of n bytes finds room in m
use Rattle.std.specs.Prelude.{ℕ, ◌+◌, cond, List, [], ◌∷◌, ◌++◌, length, drop, Ok, Err, Result, nat_lt}
use Rattle.words.specs.Headers.{version, four_bytes}
use Rattle.words.specs.Put.{put_word}
use Rattle.linear_write.specs.declared.fault.WriteFault.{WriteFault}
use Rattle.linear_write.specs.declared.fault.WriteFault.TheVariants.{Short}

abbrev pub write_number : WriteFault → ℕ
write_number Short = 16

abbrev pub laid : List ℕ → ℕ → List ℕ → List ℕ
laid bs p [] = bs
laid bs p (w ∷ ws) = laid (put_word bs p w) (p + 2) ws

abbrev pub topped : List ℕ → ℕ → List ℕ
topped bs n = (version ∷ four_bytes n) ++ drop 5 bs

abbrev pub over : List ℕ → List ℕ → List ℕ
over file bs = file ++ drop (length file) bs

-- the length of the file, or that there is no room for it
abbrev pub write_answer : List ℕ → List ℕ → Result ℕ WriteFault
write_answer file bs = cond (nat_lt (length bs) (length file)) (Err Short) (Ok (length file))

abbrev pub write_leaves : List ℕ → List ℕ → List ℕ
write_leaves file bs = cond (nat_lt (length bs) (length file)) bs (over file bs)
