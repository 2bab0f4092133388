-- The linear file of an equation: its words in the order of the file, under the header. Assumes nothing.
--     counted xs   a list with its count in front
--     words_of E   V and the sizes, the number of program counters, the first vector,
--                  a count and the action summands, a count and the delay summands
--     file_of E    the file
use Rattle.std.specs.Prelude.{ℕ, List, [], ◌∷◌, ◌++◌, length}
use Rattle.std.specs.List.{flat_map}
use Rattle.words.specs.Headers.{headed}
use Rattle.words.specs.Words.{bytes_of}
use Rattle.linear.specs.Equations.{Guarded, Acts, Leads, Summand, Linear}
use Rattle.linear.specs.declared.entry.Entry.{Entry}
use Rattle.linear.specs.declared.entry.Entry.TheVariants.{Reset, Keep, Take}

abbrev pub counted : List ℕ → List ℕ
counted xs = length xs ∷ xs

abbrev pub guard_words : Guarded → List ℕ
guard_words g = g.counter ∷ (counted g.sums ++ counted g.conditions)

abbrev pub acts_words : Acts → List ℕ
acts_words a = a.action ∷ (counted a.arguments ++ (a.variable ∷ (a.weight ∷ [])))

abbrev pub rate_words : ℕ → List ℕ
rate_words r = r ∷ []

abbrev pub entry_words : Entry → List ℕ
entry_words Reset = 0 ∷ (0 ∷ [])
entry_words Keep = 1 ∷ (0 ∷ [])
entry_words (Take e) = 2 ∷ (e ∷ [])

abbrev pub leads_words : Leads → List ℕ
leads_words t = t.counter ∷ flat_map entry_words t.entries

abbrev pub summand_words : {D : Type 0} → (D → List ℕ) → Summand D → List ℕ
summand_words does_words s = guard_words s.when ++ (does_words s.does ++ leads_words s.leads)

abbrev pub section_words : {D : Type 0} → (D → List ℕ) → List (Summand D) → List ℕ
section_words does_words ss = length ss ∷ flat_map (summand_words does_words) ss

abbrev pub head_words : Linear → List ℕ
head_words e = counted e.sizes ++ (e.counters ∷ (e.first.counter ∷ e.first.values))

abbrev pub words_of : Linear → List ℕ
words_of e = head_words e ++ (section_words acts_words e.actions ++ section_words rate_words e.delays)

abbrev pub file_of : Linear → List ℕ
file_of e = headed (bytes_of (words_of e))
