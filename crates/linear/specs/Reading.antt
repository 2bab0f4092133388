-- What the bytes of a linear file say, in the order of the file: a fault is the first one.
--     word_in, words_in                      a word or n words at p, or cut
--     count_in, list_in                      a count of at most so many, and a list with its count in front
--     guard_in, acts_in, rate_in, leads_in   the parts of a summand
--     summand_in                             a summand; where an entry is none, it has no entries
--     section_in                             a count and its summands, and where they end
--     table_in                               the whole file: versions, lengths and limits
--     linear_file                            the equation of a file, or its fault: misnamed things over all come next, then products
use Rattle.std.specs.Prelude.{◌≡◌, ℕ, zero, suc, ◌+◌, ◌-◌, ◌*◌, Bool, cond, List, [], ◌∷◌, ◌++◌, length, Some, None, Ok, Err, Option, Result, ◌==◌, nat_le, nat_lt, slice_index}
use Rattle.words.specs.Headers.{header_of}
use Rattle.words.specs.Words.{word_at}
use Rattle.words.specs.declared.header.HeaderFault.{HeaderFault}
use Rattle.linear.specs.Equations.{Guarded, Acts, Leads, Summand, Vector, Linear}
use Rattle.linear.specs.Faults.{at, head, linear_fault}
use Rattle.linear.specs.Laws.{within, named_action, named_delay, small_sums}
use Rattle.linear.specs.Layout.{guard_words, acts_words, rate_words}
use Rattle.linear.specs.declared.entry.Entry.{Entry}
use Rattle.linear.specs.declared.entry.Entry.TheVariants.{Reset, Keep, Take}
use Rattle.linear.specs.declared.fault.Group.{Group}
use Rattle.linear.specs.declared.fault.Group.TheVariants.{Actions, Delays}
use Rattle.linear.specs.declared.fault.Place.{Place}
use Rattle.linear.specs.declared.fault.LinearFault.{LinearFault}
use Rattle.linear.specs.declared.fault.LinearFault.TheVariants.{Length, Limit, Misnamed, Product}

-- go on where there is no fault
abbrev pub then : {X Y : Type 0} → Result X LinearFault → (X → Result Y LinearFault) → Result Y LinearFault
then (Ok x) f = f x
then (Err e) f = Err e

abbrev pub or_linear_fault : {X : Type 0} → Result X HeaderFault → Result X LinearFault
or_linear_fault (Ok x) = Ok x
or_linear_fault (Err e) = Err (linear_fault e)

-- where what is left begins, after these words at p
abbrev pub past : ℕ → List ℕ → ℕ
past p ws = p + 2 * length ws

abbrev pub word_in : List ℕ → Place → ℕ → Result ℕ LinearFault
word_in bs q p = cond (nat_le (p + 2) (length bs)) (Ok (word_at bs p)) (Err (Length q))

abbrev pub words_from : List ℕ → ℕ → ℕ → List ℕ
words_from bs p zero = []
words_from bs p (suc n) = word_at bs p ∷ words_from bs (p + 2) n

abbrev pub words_in : List ℕ → Place → ℕ → ℕ → Result (List ℕ) LinearFault
words_in bs q n p = cond (nat_le (p + 2 * n) (length bs)) (Ok (words_from bs p n)) (Err (Length q))

abbrev pub count_in : List ℕ → Place → ℕ → ℕ → ℕ → Result ℕ LinearFault
count_in bs q low high p = then (word_in bs q p) (λ n. cond (within low high n) (Ok n) (Err (Limit q)))

abbrev pub list_in : List ℕ → Place → ℕ → ℕ → Result (List ℕ) LinearFault
list_in bs q high p = then (count_in bs q 0 high p) (λ n. words_in bs q n (p + 2))

abbrev pub guard_in : List ℕ → Place → ℕ → Result Guarded LinearFault
guard_in bs q p =
    then (word_in bs q p) (λ c.
    then (list_in bs q 8 (p + 2)) (λ xs.
    then (list_in bs q 8 (p + 4 + 2 * length xs)) (λ es.
    Ok (record { counter = c; sums = xs; conditions = es }))))

abbrev pub acts_in : List ℕ → Place → ℕ → Result Acts LinearFault
acts_in bs q p =
    then (word_in bs q p) (λ a.
    then (list_in bs q 4 (p + 2)) (λ es.
    then (word_in bs q (p + 4 + 2 * length es)) (λ x.
    then (word_in bs q (p + 6 + 2 * length es)) (λ w.
    Ok (record { action = a; arguments = es; variable = x; weight = w })))))

abbrev pub rate_in : List ℕ → Place → ℕ → Result ℕ LinearFault
rate_in bs q p = word_in bs q p

-- an entry by its two words, or none
abbrev pub entry_of : ℕ → ℕ → Option Entry
entry_of k e =
    cond (k == 0) (cond (e == 0) (Some Reset) None)
    (cond (k == 1) (cond (e == 0) (Some Keep) None)
    (cond (k == 2) (Some (Take e)) None))

-- what is read of the two words of an entry
abbrev pub ByWords : {E : Type 0} → List ℕ → Result Entry E → Type 0
ByWords ws (Ok e) = entry_of (slice_index ws 0) (slice_index ws 1) ≡ Some e
ByWords ws (Err x) = entry_of (slice_index ws 0) (slice_index ws 1) ≡ None

abbrev pub also : Option Entry → Option (List Entry) → Option (List Entry)
also None es = None
also (Some e) None = None
also (Some e) (Some es) = Some (e ∷ es)

-- n entries, or none where one of them is none
abbrev pub entries_from : List ℕ → ℕ → ℕ → Option (List Entry)
entries_from bs p zero = Some []
entries_from bs p (suc n) = also (entry_of (word_at bs p) (word_at bs (p + 2))) (entries_from bs (p + 4) n)

abbrev pub or_no_entries : Option (List Entry) → List Entry
or_no_entries (Some es) = es
or_no_entries None = []

abbrev pub leads_in : List ℕ → Place → ℕ → ℕ → Result Leads LinearFault
leads_in bs q v p =
    then (word_in bs q p) (λ c.
    cond (nat_le (p + 2 + 4 * v) (length bs))
    (Ok (record { counter = c; entries = or_no_entries (entries_from bs (p + 2) v) }))
    (Err (Length q)))

module _ {D : Type 0} (does_in : List ℕ → Place → ℕ → Result D LinearFault) (does_words : D → List ℕ) where
  -- where the last part of a summand at p begins
  abbrev pub leads_place : ℕ → Guarded → D → ℕ
  leads_place p g d = past (past p (guard_words g)) (does_words d)

  abbrev pub summand_in : List ℕ → ℕ → Place → ℕ → Result (Summand D) LinearFault
  summand_in bs v q p =
      then (guard_in bs q p) (λ g.
      then (does_in bs q (past p (guard_words g))) (λ d.
      then (leads_in bs q v (leads_place p g d)) (λ t.
      Ok (record { when = g; does = d; leads = t }))))

  abbrev pub summand_end : ℕ → ℕ → Summand D → ℕ
  summand_end v p s = leads_place p s.when s.does + 2 + 4 * v

  -- n more summands of a group, from number k at p on, after ss
  abbrev pub summands_from : List ℕ → ℕ → Group → ℕ → ℕ → ℕ → List (Summand D) → Result (List (Summand D) × ℕ) LinearFault
  summands_from bs v g zero k p ss = Ok (ss, p)
  summands_from bs v g (suc n) k p ss =
      then (summand_in bs v (at g k) p) (λ s. summands_from bs v g n (k + 1) (summand_end v p s) (ss ++ (s ∷ [])))

  abbrev pub section_in : List ℕ → ℕ → Group → ℕ → ℕ → Result (List (Summand D) × ℕ) LinearFault
  section_in bs v g high p = then (count_in bs (at g 0) 0 high p) (λ n. summands_from bs v g n 0 (p + 2) [])

abbrev pub actions_in : List ℕ → ℕ → ℕ → Result (List (Summand Acts) × ℕ) LinearFault
actions_in bs v p = section_in acts_in acts_words bs v Actions 256 p

-- at most 256 summands in all
abbrev pub delays_in : List ℕ → ℕ → ℕ → ℕ → Result (List (Summand ℕ) × ℕ) LinearFault
delays_in bs v before p = section_in rate_in rate_words bs v Delays (256 - before) p

-- n more words of the head, from number k at p on, after xs, each keeping its rule
abbrev pub kept_from : (ℕ → ℕ → Bool) → List ℕ → ℕ → ℕ → ℕ → List ℕ → Result (List ℕ) LinearFault
kept_from rule bs zero k p xs = Ok xs
kept_from rule bs (suc n) k p xs =
    then (word_in bs head p) (λ w. cond (rule k w) (kept_from rule bs n (k + 1) (p + 2) (xs ++ (w ∷ []))) (Err (Limit head)))

abbrev pub size_rule : ℕ → ℕ → Bool
size_rule k w = within 1 256 w

-- each value below the size at its place
abbrev pub value_rule : List ℕ → ℕ → ℕ → Bool
value_rule sizes k w = nat_lt w (slice_index sizes k)

abbrev pub head_in : List ℕ → Result (List ℕ × ℕ × Vector) LinearFault
head_in bs =
    then (count_in bs head 0 16 5) (λ v.
    then (kept_from size_rule bs v 0 7 []) (λ sizes.
    then (count_in bs head 1 256 (7 + 2 * v)) (λ c.
    then (word_in bs head (7 + 2 * v + 2)) (λ s.
    then (kept_from (value_rule sizes) bs v 0 (7 + 2 * v + 4) []) (λ values.
    Ok (sizes, c, record { counter = s; values = values }))))))

abbrev pub table_in : List ℕ → Result Linear LinearFault
table_in bs =
    then (or_linear_fault (header_of bs)) (λ _.
    then (head_in bs) (λ h.
    then (actions_in bs (length h.0) (11 + 4 * length h.0)) (λ done.
    then (delays_in bs (length h.0) (length done.0) done.1) (λ ds.
    cond (ds.1 == length bs)
    (Ok (record { sizes = h.0; counters = h.1; first = h.2; actions = done.0; delays = ds.0 }))
    (Err (Length head))))))

-- the first summand of a group for which a test fails, as this fault
abbrev pub fails_from : {X : Type 0} → (X → Bool) → (Place → LinearFault) → Group → ℕ → List X → Result (Unit {0}) LinearFault
fails_from test fault g k [] = Ok tt
fails_from test fault g k (x ∷ xs) = cond (test x) (fails_from test fault g (k + 1) xs) (Err (fault (at g k)))

abbrev pub named_in : Linear → Result (Unit {0}) LinearFault
named_in e =
    cond (within 1 e.counters e.first.counter)
    (then (fails_from (named_action (length e.sizes) e.counters) Misnamed Actions 0 e.actions) (λ _.
    fails_from (named_delay (length e.sizes) e.counters) Misnamed Delays 0 e.delays))
    (Err (Misnamed head))

abbrev pub products_in : Linear → Result (Unit {0}) LinearFault
products_in e =
    then (fails_from (small_sums e.sizes) Product Actions 0 e.actions) (λ _.
    fails_from (small_sums e.sizes) Product Delays 0 e.delays)

abbrev pub linear_file : List ℕ → Result Linear LinearFault
linear_file bs =
    then (table_in bs) (λ e.
    then (named_in e) (λ _.
    then (products_in e) (λ _. Ok e)))

-- what a call answers that reads such a file
abbrev pub answer_of : {X : Type 0} → Result X LinearFault → Result (Unit {0}) LinearFault
answer_of (Ok x) = Ok tt
answer_of (Err e) = Err e

-- and what it leaves: the equation of the file in place of the one before, or that one itself
abbrev pub Leaves : {S : Type 0} → Result Linear LinearFault → (S → Linear) → S → S → Type 0
Leaves (Ok e) equation before after = equation after ≡ e
Leaves (Err x) equation before after = after ≡ before
