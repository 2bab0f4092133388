use Rattle.std.proofs.Common.{◌≡◌, ℕ, ◌<◌, ◌≤◌, false, not, ◌&&◌, length, get_or}
use Rattle.source.specs.Sets.{has}
use Rattle.source.proofs.set.NodeSet.without.Given as goal

abbrev pub invariant-loop-node : goal.invariant-loop-node
invariant-loop-node l = record {
  long : length l.flag-items ≡ 256;
  done : (n : ℕ) → n < l.node → get_or l.flag-items n false ≡ (has l.self n && not (has l.other n));
  left : (n : ℕ) → l.node ≤ n → get_or l.flag-items n false ≡ has l.self n;
}
