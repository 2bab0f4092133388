-- What `mapa model` writes: lines of a name and a number each, or the line of a refusal.
use Rattle.std.specs.Prelude.{ℕ, List, ◌++◌, length, Ok, Err, codes, decimal, Result}
use Rattle.model.specs.Flat.{Flat, footprint_of}
use Rattle.model_file.specs.declared.fault.ModelFault.{ModelFault}
use Rattle.report.specs.Kinds.{kinds_below}
use Rattle.report.specs.Refusals.{space, newline}
use Rattle.report.specs.declared.kinds.Kinds.{Kinds}
use Rattle.report.specs.declared.refusal.Refusal.{Refusal}
use Rattle.report.specs.declared.refusal.Refusal.TheVariants.{Model}

abbrev pub line_text : List ℕ → ℕ → List ℕ
line_text name n = name ++ space ++ decimal n ++ newline

abbrev pub parts_text : Flat → List ℕ
parts_text g =
    line_text (codes "variables") (length g.sizes)
    ++ line_text (codes "processes") (length g.processes)
    ++ line_text (codes "actions") (length g.arities)
    ++ line_text (codes "nodes") (length g.nodes)

abbrev pub kinds_text : Kinds → List ℕ
kinds_text k =
    line_text (codes "call nodes") k.calls
    ++ line_text (codes "condition nodes") k.conditions
    ++ line_text (codes "choice nodes") k.choices
    ++ line_text (codes "sum nodes") k.sums
    ++ line_text (codes "action nodes") k.actions
    ++ line_text (codes "delay nodes") k.delays

abbrev pub summary_text : Flat → List ℕ
summary_text g = parts_text g ++ kinds_text (kinds_below g (length g.nodes)) ++ line_text (codes "footprint") (footprint_of g)

-- of a file that was judged so
abbrev pub model_told : Result (Unit {0}) ModelFault → Flat → Result (List ℕ) Refusal
model_told (Ok u) g = Ok (summary_text g)
model_told (Err x) g = Err (Model x)
