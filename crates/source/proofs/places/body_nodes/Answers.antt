use Rattle.std.proofs.Common.{◌≡◌, ltb, sym, ap, ◌∙◌, arith}
use Rattle.std.specs.List.{slice_get}
use Rattle.model_file.specs.Fields.{process_count}
use Rattle.model_file.specs.Layouts.{layout_of}
use Rattle.model_rules.specs.Tallies.{one, total}
use Rattle.model.specs.Flat.{flat, process_of}
use Rattle.model.proofs.Numbered.{numbered_length}
use Rattle.source.specs.Counters.{body_is}
use Rattle.source.specs.Sets.{has}
use Rattle.source.proofs.Marks.{marks_on, marks_end, marks_start}
use Rattle.source.proofs.Rested.{bodies_all}
use Rattle.source.proofs.places.body_nodes.Goals as goal

pub loop-process-init : goal.loop-process-init
loop-process-init c =
    let bs = c.args.model.now.bytes.now in
    λ n l. marks_start (λ j. body_is (slice_get (flat bs).processes j) n) c.process_count-process-end.result (has c.empty-bodies.result n) (c.empty-bodies.ensures.answer n)

pub loop-process-preserved : goal.loop-process-preserved
loop-process-preserved c =
    let bs = c.args.model.now.bytes.now in
    λ n l. marks_on (λ j. body_is (slice_get (flat bs).processes j) n) c.process_count-process-end.result c.loop-process.process _ _ _ (omega arith) (c.loop-process.invariant n l) (c.add_body.ensures.leaves n l)

pub returns : goal.returns
returns c =
    let bs = c.args.model.now.bytes.now in
    let k : c.process_count-process-end.result ≡ process_count bs (layout_of bs) = c.process_count-process-end.ensures.answer ∙ sym (numbered_length (process_of bs (layout_of bs)) (process_count bs (layout_of bs))) in
    record { answer = λ n l. marks_end (λ j. body_is (slice_get (flat bs).processes j) n) c.process_count-process-end.result c.loop-process.process _ _ (omega arith) (c.loop-process.invariant n l) ∙ ap (λ m. ltb 0 (total (λ j. one (body_is (slice_get (flat bs).processes j) n)) m 0)) k ∙ ap (ltb 0) (bodies_all bs c.args.model.now.lawful n) }
