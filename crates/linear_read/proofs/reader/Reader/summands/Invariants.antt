use Rattle.std.proofs.Common.{◌≡◌, ◌-◌, [], length}
use Rattle.linear.specs.Reading.{summands_from}
use Rattle.linear_read.proofs.reader.Reader.summands.Given as goal

abbrev pub invariant-loop-k : goal.invariant-loop-k
invariant-loop-k g l =
    (length l.items ≡ l.k)
    × (l.self.bytes ≡ l.fn.self.bytes)
    × (l.self.variables ≡ l.fn.self.variables)
    × (summands_from g.D.Part.part_in g.D.Doing.words l.self.bytes l.self.variables l.group (l.count - l.k) l.k l.self.at l.items ≡ summands_from g.D.Part.part_in g.D.Doing.words l.fn.self.bytes l.fn.self.variables l.group l.count 0 l.fn.self.at [])
