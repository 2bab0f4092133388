use Rattle.std.proofs.Common.{string_bytes, decimal, ap, ◌∙◌, ◌++◌, ◌∷◌}
use Rattle.report.specs.Data.{names_below}
use Rattle.report.proofs.Pieces.{line_put}
use Rattle.report.proofs.data.put_line.Goals as goal

pub returns : goal.returns
returns g c =
    let l = g.L.Language.meaning c.args.language.now in
    let e = c.args.expression in
    let old = string_bytes c.args.text.now in
    record {
      leaves = line_put c.push_str.result old (decimal e) (decimal (l.value e _)) (names_below (l.names e) 16) (string_bytes c.write.new.self) (string_bytes c.put_names.new.text) (string_bytes c.push_str.new.self)
          (c.in_ok-write.ensures.bytes ∙ ap (λ v. old ++ (decimal e ++ (32 ∷ decimal v))) c.value-value.ensures.answer) c.in_ok-put_names.ensures.leaves c.push_str.ensures.bytes;
    }
