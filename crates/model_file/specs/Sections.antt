-- The first fault of a model file in file order.
--     width, section_of, place_of, fewest, most   a record's bytes, its section and number, the limits of the section's count
--     keeps bs r p i                              record i, which begins at p, is within its limits
--     record_fault, records_fault, section_fault, start_fault
--     sectioned bs                                the bytes are the header and the six sections, or the first fault
use Rattle.std.specs.Prelude.{ℕ, zero, suc, ◌+◌, ◌*◌, Bool, true, cond, ◌&&◌, List, length, Ok, Err, Result, ◌==◌, nat_le, nat_lt}
use Rattle.words.specs.Words.{word_at}
use Rattle.words.specs.Headers.{header_of}
use Rattle.model_file.specs.declared.fault.ModelFault.{ModelFault}
use Rattle.model_file.specs.declared.fault.ModelFault.TheVariants.{Cut, Limit}
use Rattle.model_file.specs.declared.layout.Layout.{Layout}
use Rattle.model_file.specs.declared.part.Part.{Part}
use Rattle.model_file.specs.declared.part.Part.TheVariants.{Size, Process, Value, Arity, Node, Argument}
use Rattle.model_file.specs.Faults.{and_then, or_fault}
use Rattle.model_file.specs.Layouts.{layout_of, size_at, process_at, end_at}

abbrev pub width : Part → ℕ
width Size = 2
width (Process v) = 6
width (Value s) = 2
width Arity = 2
width Node = 12
width Argument = 2

abbrev pub section_of : Part → ℕ
section_of Size = 1
section_of (Process v) = 2
section_of (Value s) = 3
section_of Arity = 4
section_of Node = 5
section_of Argument = 6

-- the start is one record
abbrev pub place_of : Part → ℕ → ℕ
place_of Size i = i
place_of (Process v) i = i
place_of (Value s) i = 0
place_of Arity i = i
place_of Node i = i
place_of Argument i = i

abbrev pub fewest : Part → ℕ
fewest Size = 0
fewest (Process v) = 1
fewest (Value s) = 0
fewest Arity = 1
fewest Node = 1
fewest Argument = 0

abbrev pub most : Part → ℕ
most Size = 16
most (Process v) = 16
most (Value s) = 8
most Arity = 64
most Node = 256
most Argument = 512

-- `number` things from `first` on are among `total`; first is 0 where there are none
abbrev pub run_fits : ℕ → ℕ → ℕ → Bool
run_fits total first number = cond (number == 0) (first == 0) (nat_le (first + number) total)

abbrev pub keeps : List ℕ → Part → ℕ → ℕ → Bool
keeps bs Size p i = nat_le 1 (word_at bs p) && nat_le (word_at bs p) 256
keeps bs (Process v) p i = nat_le (word_at bs (p + 2)) 8 && run_fits v (word_at bs p) (word_at bs (p + 2))
keeps bs (Value s) p i = nat_lt (word_at bs p) (word_at bs (s + 2 * i))
keeps bs Arity p i = cond (i == 0) (word_at bs p == 0) (nat_le (word_at bs p) 4)
keeps bs Node p i = true
keeps bs Argument p i = true

-- cut before off its limits
abbrev pub record_fault : List ℕ → Part → ℕ → ℕ → Result (Unit {0}) ModelFault
record_fault bs r p i =
    cond (nat_lt (length bs) (p + width r)) (Err (Cut (section_of r) (place_of r i)))
    (cond (keeps bs r p i) (Ok tt) (Err (Limit (section_of r) (place_of r i))))

-- k records from record i, at p, on
abbrev pub records_fault : List ℕ → Part → ℕ → ℕ → ℕ → Result (Unit {0}) ModelFault
records_fault bs r zero i p = Ok tt
records_fault bs r (suc k) i p = and_then (record_fault bs r p i) (λ _. records_fault bs r k (i + 1) (p + width r))

-- a section at p: a count and its records
abbrev pub section_fault : List ℕ → Part → ℕ → Result (Unit {0}) ModelFault
section_fault bs r p =
    cond (nat_lt (length bs) (p + 2)) (Err (Cut (section_of r) 0))
    (cond (nat_le (fewest r) (word_at bs p) && nat_le (word_at bs p) (most r)) (records_fault bs r (word_at bs p) 0 (p + 2))
    (Err (Limit (section_of r) 0)))

-- a process, and one value below its size for each of its parameters
abbrev pub start_fault : List ℕ → Layout → Result (Unit {0}) ModelFault
start_fault bs l =
    cond (nat_lt (length bs) (l.start + 2)) (Err (Cut 3 0))
    (cond (nat_lt (word_at bs l.start) (word_at bs l.processes))
    (records_fault bs (Value (size_at (word_at bs (process_at l (word_at bs l.start))))) (word_at bs (process_at l (word_at bs l.start) + 2)) 0 (l.start + 2))
    (Err (Limit 3 0)))

abbrev pub sections_fault : List ℕ → Layout → Result (Unit {0}) ModelFault
sections_fault bs l =
    and_then (section_fault bs Size 5) (λ _.
    and_then (section_fault bs (Process (word_at bs 5)) l.processes) (λ _.
    and_then (start_fault bs l) (λ _.
    and_then (section_fault bs Arity l.actions) (λ _.
    and_then (section_fault bs Node l.nodes) (λ _.
    and_then (section_fault bs Argument l.arguments) (λ _.
    cond (end_at bs l == length bs) (Ok tt) (Err (Cut 0 0))))))))

abbrev pub sectioned : List ℕ → Result (Unit {0}) ModelFault
sectioned bs = and_then (or_fault (header_of bs)) (λ _. sections_fault bs (layout_of bs))
