-- What `mapa data` writes: a heading, then a line for each expression, `EXPRESSION VALUE NAMES..`,
-- the value with all variables 0 and each variable that is named behind a space; or the line of a refusal.
use Rattle.std.specs.Prelude.{ℕ, zero, suc, Bool, cond, List, [], ◌++◌, Ok, Err, codes, decimal, Result}
use Rattle.language.specs.Meanings.{Meaning}
use Rattle.language.specs.declared.fault.DataFault.{DataFault}
use Rattle.report.specs.Refusals.{space, newline}
use Rattle.report.specs.declared.refusal.Refusal.{Refusal}
use Rattle.report.specs.declared.refusal.Refusal.TheVariants.{Data}

abbrev pub name_text : (ℕ → Bool) → ℕ → List ℕ
name_text named x = cond (named x) (space ++ decimal x) []

-- the names below n, upwards
abbrev pub names_below : (ℕ → Bool) → ℕ → List ℕ
names_below named zero = []
names_below named (suc n) = names_below named n ++ name_text named n

abbrev pub line_of : Meaning → ℕ → List ℕ
line_of l e = decimal e ++ space ++ decimal (l.value e []) ++ names_below (l.names e) 16 ++ newline

-- the heading and the lines below n
abbrev pub lines_below : Meaning → ℕ → List ℕ
lines_below l zero = codes "expression value names" ++ newline
lines_below l (suc n) = lines_below l n ++ line_of l n

-- of a file that gives this language, or is refused
abbrev pub data_told : Result Meaning DataFault → Result (List ℕ) Refusal
data_told (Ok l) = Ok (lines_below l l.count)
data_told (Err x) = Err (Data x)
