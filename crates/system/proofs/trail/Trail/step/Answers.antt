use Rattle.std.proofs.Common.{◌≡◌, ◌<◌, ◌≤◌, length, get_or, ◌∙◌, rules}
use Rattle.system.proofs.Passes.{step_there, step_none}
use Rattle.system.proofs.trail.Trail.step.Goals as goal

pub returns-in_err-taken : goal.returns-in_err-taken
returns-in_err-taken c =
    let ts = c.args.self.now.past in
    let high : length ts ≤ c.args.i = search rules in
    record { answer = λ w. c.from_residual.ensures ∙ step_none w ts c.args.i high }

pub returns : goal.returns
returns c =
    let ts = c.args.self.now.past in
    let t = c.in_ok-taken.taken.now in
    let low : c.args.i < length ts = search rules in
    let is : t ≡ get_or ts c.args.i t = search rules in
    record { answer = λ w. step_there w ts c.args.i t low is }
