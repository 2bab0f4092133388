use Rattle.std.proofs.Common.{Err, sym, ap, ◌∙◌, rules}
use Rattle.std.proofs.lemmas.Result.{err_from_is_err_and}
use Rattle.model_file.specs.declared.fault.ModelFault.TheVariants.{Unnamed, NotOnce, CallElsewhere, WaysDown}
use Rattle.model_file.specs.Faults.{and_then}
use Rattle.model_file.specs.Fields.{node_count}
use Rattle.model_rules.specs.Names.{body_named}
use Rattle.model_rules.specs.Rules.{first_fault, node_named}
use Rattle.model_rules.specs.Tallies.{node_once, variable_once, call_placed}
use Rattle.model_rules.specs.Ways.{ways_fit}
use Rattle.model_rules.proofs.Firsts.{first_is, from_calls}
use Rattle.model_rules.proofs.rules.check_in_order.Goals as goal

pub returns-in_err-check_each-5 : goal.returns-in_err-check_each-5
returns-in_err-check_each-5 c =
    let bs = c.args.file.now.bytes.now in
    let l = c.args.file.now.layout in
    let bodies = first_is (body_named bs l) (Unnamed 2) _ _ (c.check_each.ensures.answer (body_named bs l) (Unnamed 2) (λ i x low q. search rules) (λ i x low q. search rules)) c.process_count.ensures.answer in
    let names = first_is (node_named bs l) (Unnamed 5) _ _ (c.check_each-2.ensures.answer (node_named bs l) (Unnamed 5) (λ i x low q. search rules) (λ i x low q. search rules)) c.node_count-nodes.ensures.answer in
    let nodes = first_is (node_once bs l) (NotOnce 5) _ _ (c.check_each-3.ensures.answer (node_once bs l) (NotOnce 5) (λ i x low q. search rules) (λ i x low q. search rules)) c.node_count-nodes.ensures.answer in
    let variables = first_is (variable_once bs l) (NotOnce 1) _ _ (c.check_each-4.ensures.answer (variable_once bs l) (NotOnce 1) (λ i x low q. search rules) (λ i x low q. search rules)) c.variable_count.ensures.answer in
    let calls = first_is (call_placed bs l) CallElsewhere _ _ (c.check_each-5.ensures.answer (call_placed bs l) CallElsewhere (λ i x low q. search rules) (λ i x low q. search rules)) c.node_count-nodes.ensures.answer in
    let e = from_calls bs l (sym c.in_ok-check_each.was ∙ bodies) (sym c.in_ok-check_each-2.was ∙ names) (sym c.in_ok-check_each-3.was ∙ nodes) (sym c.in_ok-check_each-4.was ∙ variables) in
    let p = err_from_is_err_and c.from_residual-in_err-check_each-5.result c.from_residual-in_err-check_each-5.ensures.1 in
    record { answer = p.1 ∙ ap Err p.2 ∙ sym (e ∙ ap (λ r. and_then r (λ _. first_fault (ways_fit bs l) WaysDown (node_count bs l) 0)) (sym calls ∙ c.in_err-check_each-5.was)) }

pub returns : goal.returns
returns c =
    let bs = c.args.file.now.bytes.now in
    let l = c.args.file.now.layout in
    let bodies = first_is (body_named bs l) (Unnamed 2) _ _ (c.check_each.ensures.answer (body_named bs l) (Unnamed 2) (λ i x low q. search rules) (λ i x low q. search rules)) c.process_count.ensures.answer in
    let names = first_is (node_named bs l) (Unnamed 5) _ _ (c.check_each-2.ensures.answer (node_named bs l) (Unnamed 5) (λ i x low q. search rules) (λ i x low q. search rules)) c.node_count-nodes.ensures.answer in
    let nodes = first_is (node_once bs l) (NotOnce 5) _ _ (c.check_each-3.ensures.answer (node_once bs l) (NotOnce 5) (λ i x low q. search rules) (λ i x low q. search rules)) c.node_count-nodes.ensures.answer in
    let variables = first_is (variable_once bs l) (NotOnce 1) _ _ (c.check_each-4.ensures.answer (variable_once bs l) (NotOnce 1) (λ i x low q. search rules) (λ i x low q. search rules)) c.variable_count.ensures.answer in
    let calls = first_is (call_placed bs l) CallElsewhere _ _ (c.check_each-5.ensures.answer (call_placed bs l) CallElsewhere (λ i x low q. search rules) (λ i x low q. search rules)) c.node_count-nodes.ensures.answer in
    let ways = first_is (ways_fit bs l) WaysDown _ _ (c.check_each-6.ensures.answer (ways_fit bs l) WaysDown (λ i x low q. search rules) (λ i x low q. search rules)) c.node_count-nodes.ensures.answer in
    let e = from_calls bs l (sym c.in_ok-check_each.was ∙ bodies) (sym c.in_ok-check_each-2.was ∙ names) (sym c.in_ok-check_each-3.was ∙ nodes) (sym c.in_ok-check_each-4.was ∙ variables) in
    record { answer = ways ∙ sym (e ∙ ap (λ r. and_then r (λ _. first_fault (ways_fit bs l) WaysDown (node_count bs l) 0)) (sym calls ∙ c.in_ok-check_each-5.was)) }
