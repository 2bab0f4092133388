use Rattle.std.proofs.Common.{◌≡◌, sym, ◌∙◌}
use Rattle.model_rules.specs.Rules.{ruled}
use Rattle.model_rules.proofs.Ruled.{rules_are}
use Rattle.model_rules.proofs.rules.check_rules.Goals as goal

pub returns-clause-rules : goal.returns-clause-rules
returns-clause-rules c = λ limits.
    let is : c.check_in_order.result ≡ ruled c.args.bytes.now = cc in
    let q = rules_are c.args.bytes.now limits in
    (λ ok. q.0 (sym is ∙ ok), λ m. is ∙ q.1 m)
