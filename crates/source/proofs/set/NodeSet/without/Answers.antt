use Rattle.std.proofs.Common.{◌<◌, ◌≤◌, false, not, ◌&&◌, sym, refl, ap, ◌∙◌, ⊎_elim, arith, length-set, get_or-set_other}
use Rattle.std.proofs.lemmas.List.{get_or_past}
use Rattle.std.proofs.lemmas.Bool.{cases_lt}
use Rattle.source.specs.Sets.{has}
use Rattle.source.proofs.Above.{past}
use Rattle.source.proofs.Below.{flags_next}
use Rattle.source.proofs.set.NodeSet.without.Goals as goal

pub loop-node-init : goal.loop-node-init
loop-node-init c = record { long = c.args.self.now.full; done = λ n l. absurd (omega arith); left = λ n l. refl }

pub loop-node-preserved : goal.loop-node-preserved
loop-node-preserved c =
    let i = c.loop-node.invariant in
    let at = c.loop-node.node in record {
      long = length-set _ _ _ ∙ i.long;
      done = flags_next (λ n. has c.args.self.now n && not (has c.args.other.now n)) c.loop-node.flag-items at _ (omega (arith, i.long)) i.done (ap (λ b. b && not (has c.args.other.now at)) (i.left at (omega arith)));
      left = λ n l. get_or-set_other c.loop-node.flag-items at n _ false (λ e. omega (arith, e)) ∙ i.left n (omega arith);
    }

pub returns : goal.returns
returns c = record {
  answer = λ n. ⊎_elim
      (λ (l : n < 256). c.loop-node.invariant.done n (omega (arith, c.loop-node.invariant.long)))
      (λ (l : 256 ≤ n). get_or_past c.loop-node.flag-items n false (omega (arith, c.loop-node.invariant.long)) ∙ sym (ap (λ b. b && not (has c.args.other.now n)) (past c.args.self.now n l)))
      (cases_lt n 256);
}
