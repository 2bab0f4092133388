use Rattle.std.proofs.Common.{◌≡◌, ◌+◌, ◌-◌, ◌*◌}
use Rattle.model_file.specs.Sections.{width, records_fault}
use Rattle.model_file.proofs.part.Part.check_records.Given as goal

abbrev pub invariant-loop-i : goal.invariant-loop-i
invariant-loop-i l = records_fault l.bytes l.self l.count 0 l.from ≡ records_fault l.bytes l.self (l.count - l.i) l.i (l.from + width l.self * l.i)
