use Rattle.std.proofs.Common.{◌≡◌, ℕ, ◌-◌, ◌<◌, ◌||◌, ltb}
use Rattle.std.specs.List.{slice_get}
use Rattle.model_rules.specs.Tallies.{one, total}
use Rattle.model.specs.Flat.{flat}
use Rattle.source.specs.Counters.{body_is}
use Rattle.source.specs.Sets.{has}
use Rattle.source.proofs.places.body_nodes.Given as goal

abbrev pub invariant-loop-process : goal.invariant-loop-process
invariant-loop-process l =
    (n : ℕ) → n < 256 → (has l.bodies n || ltb 0 (total (λ j. one (body_is (slice_get (flat l.model.bytes.now).processes j) n)) (l.process-end - l.process) l.process)) ≡ ltb 0 (total (λ j. one (body_is (slice_get (flat l.model.bytes.now).processes j) n)) l.process-end 0)
