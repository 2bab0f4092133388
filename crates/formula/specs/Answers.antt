-- Answers of cells, kept once found.
--     Kept f memo        each answer that the memo has is the one that f gives
--     Chosen w r y z     the answer r of a choice is that of the operand w, of answer y or z
--     Solves step cs f   f gives each cell what `step` makes of it and of what f gives the cells before it
use Rattle.std.specs.Prelude.{⊤, ◌≡◌, ℕ, ◌<◌, List, length, Some, None, Option, slice_index_or}
use Rattle.formula.specs.Cells.{cell_at}
use Rattle.formula.specs.declared.answers.Choosing.{Choosing}
use Rattle.formula.specs.declared.answers.Choosing.TheVariants.{Second, Third, ByBoth}
use Rattle.formula.specs.declared.cell.Cell.{Cell}

abbrev pub Kept : {X : Type 0} → (ℕ → X) → List (Option X) → Type 0
Kept {X} f memo = (k : ℕ) (x : X) → slice_index_or memo k None ≡ Some x → x ≡ f k

abbrev pub Solves : {X : Type 0} → (Cell → (ℕ → X) → X) → List Cell → (ℕ → X) → Type 0
Solves step cs f = (e : ℕ) → e < length cs → f e ≡ step (cell_at cs e) f

abbrev pub Chosen : {X : Type 0} → Choosing → X → X → X → Type 0
Chosen Second r y z = r ≡ y
Chosen Third r y z = r ≡ z
Chosen ByBoth r y z = ⊤
