-- What each verb of `mapa` has to tell of its input: a text, or a refusal.
use Rattle.std.specs.Prelude.{ℕ, List, Result}
use Rattle.formula.specs.Files.{formula_language}
use Rattle.table.specs.Files.{table_language}
use Rattle.language.specs.Meanings.{Meaning}
use Rattle.language.specs.declared.fault.DataFault.{DataFault}
use Rattle.model.specs.Accept.{judged}
use Rattle.model.specs.Flat.{flat}
use Rattle.report.specs.Data.{data_told}
use Rattle.report.specs.Summaries.{model_told}
use Rattle.report.specs.declared.refusal.Refusal.{Refusal}
use Rattle.report.specs.declared.verb.DataLanguage.{DataLanguage}
use Rattle.report.specs.declared.verb.DataLanguage.TheVariants.{Formula, Table}
use Rattle.report.specs.declared.verb.Verb.{Verb}
use Rattle.report.specs.declared.verb.Verb.TheVariants.{Data, Model}

-- the language that a data file describes
abbrev pub language_of : DataLanguage → List ℕ → Result Meaning DataFault
language_of Formula input = formula_language input
language_of Table input = table_language input

abbrev pub verb_told : Verb → List ℕ → Result (List ℕ) Refusal
verb_told (Data l) input = data_told (language_of l input)
verb_told Model input = model_told (judged input) (flat input)
