use Rattle.std.proofs.Common.{◌≡◌, ◌+◌, ◌-◌, ◌*◌, [], length}
use Rattle.linear.specs.Reading.{kept_from}
use Rattle.linear_read.specs.Spots.{to}
use Rattle.linear_read.proofs.reader.Reader.kept_words.Given as goal

abbrev pub invariant-loop-k : goal.invariant-loop-k
invariant-loop-k g l =
    (length l.items ≡ l.k)
    × (l.self ≡ to l.fn.self (l.fn.self.at + 2 * l.k))
    × (kept_from (g.K.HeadRule.rule l.rule) l.self.bytes (l.count - l.k) l.k l.self.at l.items ≡ kept_from (g.K.HeadRule.rule l.rule) l.fn.self.bytes l.count 0 l.fn.self.at [])
