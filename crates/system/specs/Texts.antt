-- What answers are printed as.
use Rattle.std.specs.Prelude.{ℕ, List, [], ◌∷◌, ◌++◌, take, codes}
use Rattle.std.specs.Fmt.{decimal}
use Rattle.std.specs.List.{flat_map}
use Rattle.system.specs.Refusals.{refusal_number}
use Rattle.system.specs.declared.answers.Label.{Label}
use Rattle.system.specs.declared.answers.Step.{Step}
use Rattle.system.specs.declared.answers.Step.TheVariants.{Acted, Waited}
use Rattle.system.specs.declared.refusal.Refusal.{Refusal}

abbrev pub refusal_text : Refusal → List ℕ
refusal_text r = codes "refused " ++ decimal (refusal_number r)

-- an argument behind a comma
abbrev pub later_text : ℕ → List ℕ
later_text v = codes "," ++ decimal v

abbrev pub arguments_text : List ℕ → List ℕ
arguments_text [] = []
arguments_text (v ∷ vs) = decimal v ++ flat_map later_text vs

abbrev pub label_text : Label → List ℕ
label_text l = decimal l.action ++ codes "(" ++ arguments_text (take l.count l.values) ++ codes ")"

abbrev pub step_text : Step → List ℕ
step_text (Acted l n) = codes "act " ++ label_text l ++ codes " " ++ decimal n
step_text (Waited r) = codes "wait " ++ decimal r.0
