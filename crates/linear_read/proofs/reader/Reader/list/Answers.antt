use Rattle.std.proofs.Common.{◌≡◌, ◌+◌, ◌*◌, length, subst}
use Rattle.std.specs.Prelude.{IfOk}
use Rattle.linear_read.specs.Spots.{Spot, to}
use Rattle.linear_read.proofs.reader.Reader.list.Goals as goal

pub returns-clause-moves : goal.returns-clause-moves
returns-clause-moves c =
    let P : Spot → Type 0 = λ s. IfOk c.words.result (λ xs. c.words.new.self ≡ to s (s.at + 2 * length xs)) in
    subst P c.in_ok-count.ensures.moves c.words.ensures.moves
