-- The line that a program writes where it refuses its input: `refused STAGE NUMBER SECTION RECORD`.
--     refusal_text r        the line of a refusal
--     of_data, of_model     the fault of a file, as a program's
--     of_memory             want of memory, as a program's fault
--     Refuses told x        what is to be told is the refusal x, unless memory ran out
use Rattle.std.specs.Prelude.{◌≡◌, ℕ, List, [], ◌∷◌, ◌++◌, Err, Result, codes, decimal}
use Rattle.std.specs.declared.alloc.AllocError.{AllocError}
use Rattle.language.specs.Faults.{number_of, record_of}
use Rattle.language.specs.declared.fault.DataFault.{DataFault}
use Rattle.model_file.specs.Faults.{code_of}
use Rattle.model_file.specs.declared.fault.ModelFault.{ModelFault}
use Rattle.report.specs.declared.refusal.Refusal.{Refusal}
use Rattle.report.specs.declared.refusal.Refusal.TheVariants.{Model, Data}
use Rattle.report.specs.declared.refusal.ReportFault.{ReportFault}
use Rattle.report.specs.declared.refusal.ReportFault.TheVariants.{Refused, OutOfMemory}

abbrev pub space : List ℕ
space = codes " "

abbrev pub newline : List ℕ
newline = 10 ∷ []

-- the records of a data file are in no section
abbrev pub refusal_text : Refusal → List ℕ
refusal_text (Model x) = codes "refused model " ++ decimal (code_of x).number ++ space ++ decimal (code_of x).section ++ space ++ decimal (code_of x).«record» ++ newline
refusal_text (Data x) = codes "refused data " ++ decimal (number_of x) ++ codes " 0 " ++ decimal (record_of x) ++ newline

abbrev pub of_data : DataFault → ReportFault
of_data x = Refused (Data x)

abbrev pub of_model : ModelFault → ReportFault
of_model x = Refused (Model x)

abbrev pub of_memory : AllocError → ReportFault
of_memory x = OutOfMemory x

abbrev pub Refuses : Result (List ℕ) Refusal → ReportFault → Type 0
Refuses told (Refused x) = told ≡ Err x
Refuses told (OutOfMemory x) = Unit {0}
