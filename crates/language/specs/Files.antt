-- What the bytes of a data file say, in the order of the file: a fault is the first one.
--     headed bs          the header
--     count_of bs        the count of expressions, which comes next
--     rows get n         n records, each as `get` reads it, or the first fault among them
--     record_at d bs k   record k of a file, as `d` decodes its four words, or its fault
--     records_of d bs    all records of a file, or the first fault up to their end
--     every p n          p holds of each number below n
--     answer_of r        what a call answers that fills a language from such a file
--     Leaves r m b a     and what it leaves: the language a in place of b, or b itself
use Rattle.std.specs.Prelude.{◌≡◌, ℕ, zero, suc, ◌+◌, ◌*◌, Bool, true, cond, ◌&&◌, List, [], ◌∷◌, ◌++◌, length, Some, None, Ok, Err, Option, Result, nat_le, nat_lt}
use Rattle.words.specs.Headers.{header_of}
use Rattle.words.specs.Words.{word_at}
use Rattle.words.specs.declared.header.HeaderFault.{HeaderFault}
use Rattle.words.specs.declared.header.HeaderFault.TheVariants as header
use Rattle.language.specs.Meanings.{Meaning}
use Rattle.language.specs.declared.fault.DataFault.{DataFault}
use Rattle.language.specs.declared.fault.DataFault.TheVariants.{Version, Length, Rule}

-- go on where there is no fault
abbrev pub then : {X Y : Type 0} → Result X DataFault → (X → Result Y DataFault) → Result Y DataFault
then (Ok x) f = f x
then (Err e) f = Err e

abbrev pub data_fault : HeaderFault → DataFault
data_fault header.Version = Version
data_fault header.Length = Length 0

abbrev pub or_data_fault : {X : Type 0} → Result X HeaderFault → Result X DataFault
or_data_fault (Ok x) = Ok x
or_data_fault (Err e) = Err (data_fault e)

abbrev pub headed : List ℕ → Result (Unit {0}) DataFault
headed bs = or_data_fault (header_of bs)

abbrev pub count_of : List ℕ → Result ℕ DataFault
count_of bs =
    then (headed bs) (λ _.
    cond (nat_lt (length bs) 7) (Err (Length 0))
    (cond (nat_le (word_at bs 5) 256) (Ok (word_at bs 5)) (Err (Rule 0))))

-- n more, from number k on, after xs
abbrev pub rows_from : {X : Type 0} → (ℕ → Result X DataFault) → ℕ → ℕ → List X → Result (List X) DataFault
rows_from get zero k xs = Ok xs
rows_from get (suc n) k xs = then (get k) (λ x. rows_from get n (k + 1) (xs ++ (x ∷ [])))

abbrev pub rows : {X : Type 0} → (ℕ → Result X DataFault) → ℕ → Result (List X) DataFault
rows get n = rows_from get n 0 []

-- where record k begins; each is four words
abbrev pub record_place : ℕ → ℕ
record_place k = 7 + 8 * k

abbrev pub or_rule : {X : Type 0} → ℕ → Option X → Result X DataFault
or_rule k (Some x) = Ok x
or_rule k None = Err (Rule k)

abbrev pub record_at : {X : Type 0} → (ℕ → ℕ → ℕ → ℕ → ℕ → Option X) → List ℕ → ℕ → Result X DataFault
record_at decoded bs k =
    cond (nat_lt (length bs) (record_place k + 8)) (Err (Length k))
    (or_rule k (decoded k (word_at bs (record_place k)) (word_at bs (record_place k + 2)) (word_at bs (record_place k + 4)) (word_at bs (record_place k + 6))))

abbrev pub records_of : {X : Type 0} → (ℕ → ℕ → ℕ → ℕ → ℕ → Option X) → List ℕ → Result (List X) DataFault
records_of decoded bs = then (count_of bs) (rows (record_at decoded bs))

abbrev pub every : (ℕ → Bool) → ℕ → Bool
every p zero = true
every p (suc n) = every p n && p n

abbrev pub answer_of : {X : Type 0} → Result X DataFault → Result (Unit {0}) DataFault
answer_of (Ok x) = Ok tt
answer_of (Err e) = Err e

abbrev pub Leaves : {S : Type 0} → Result Meaning DataFault → (S → Meaning) → S → S → Type 0
Leaves (Ok l) meaning before after = meaning after ≡ l
Leaves (Err e) meaning before after = after ≡ before
