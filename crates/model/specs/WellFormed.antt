-- Which files are model files.
--     WellFormed bs   the six sections are within their limits, and the nodes are sound: a field for each rule in either record
use Rattle.std.specs.Prelude.{ℕ, List}
use Rattle.model_file.specs.Limits.{InLimits}
use Rattle.model_rules.specs.Sound.{Sound}

pub record WellFormed (bs : List ℕ) : Type 0 where
  pub limits : InLimits bs
  pub sound : Sound bs
