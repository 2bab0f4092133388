-- What a writer has written.
--     Put          a buffer, where what is written next goes, and who lent the buffer
--     written w    those of a writer
--     after s ws   with the words ws put next
--     paid s q n   with the count n put at q
--     HasRoom s ws the buffer has room for them
--     add_answer, add_leaves   what adding the words ws answers, and what it leaves: nothing changes without room
use base.Fml.{GName}
use Rattle.std.specs.Prelude.{ℕ, ◌≤◌, cond, nat_lt, List, length, Ok, Err, Result}
use Rattle.words.specs.Put.{put_word}
use Rattle.linear.specs.Reading.{past}
use Rattle.linear_write.specs.Laid.{laid}
use Rattle.linear_write.specs.declared.fault.WriteFault.{WriteFault}
use Rattle.linear_write.specs.declared.fault.WriteFault.TheVariants.{Short}
use Rattle.linear_write.specs.declared.writer.Writer.{Writer}

pub record Put : Type 0 where
  pub out : List ℕ
  pub at : ℕ
  pub lender : GName

abbrev pub written : Writer → Put
written w = record { out = w.out.now; at = w.at; lender = w.out.ghost_name }

abbrev pub after : Put → List ℕ → Put
after s ws = record { out = laid s.out s.at ws; at = past s.at ws; lender = s.lender }

abbrev pub paid : Put → ℕ → ℕ → Put
paid s q n = record { out = put_word s.out q n; at = s.at; lender = s.lender }

abbrev pub HasRoom : Put → List ℕ → Type 0
HasRoom s ws = past s.at ws ≤ length s.out

abbrev pub add_answer : Put → List ℕ → Result (Unit {0}) WriteFault
add_answer s ws = cond (nat_lt (length s.out) (past s.at ws)) (Err Short) (Ok tt)

abbrev pub add_leaves : Put → List ℕ → Put
add_leaves s ws = cond (nat_lt (length s.out) (past s.at ws)) s (after s ws)
