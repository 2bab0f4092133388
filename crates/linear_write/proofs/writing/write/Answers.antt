use Rattle.std.proofs.Common.{List, ℕ, length, take, drop, ap, ◌∙◌, subst}
use Rattle.words.specs.Words.{Bytes}
use Rattle.linear.specs.Layout.{file_of}
use Rattle.linear.specs.Reading.{linear_file}
use Rattle.linear.proofs.Printed.{written_reads}
use Rattle.linear_write.proofs.Laying.{front_bytes, file_front}
use Rattle.linear_write.proofs.writing.write.Goals as goal

pub returns-clause-trips : goal.returns-clause-trips
returns-clause-trips c =
    let out = c.args.out.now in
    let e = c.args.equation.now.table in
    let file = file_of e in
    let n = c.file_length-needed.result in
    let whole = c.put_file.ensures.leaves in
    let B : List ℕ → Type 0 = λ b. Bytes b in
    let low = front_bytes file (drop (length file) out) (subst B whole c.put_file.ensures.bytes) in
    ap linear_file (ap (take n) whole ∙ file_front file out n c.file_length-needed.ensures.answer) ∙ written_reads e low c.args.equation.now.lawful
