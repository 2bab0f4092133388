-- The order of derivations: left before right, a sum's values upwards.
use Rattle.std.specs.Prelude.{ℕ, ◌<◌, List, [], ◌∷◌}
use Rattle.std.specs.List.{AllByRecursion}
use Rattle.source.specs.Rules.{Rule, NChoiceL, NChoiceR, NSum, Derived}

pub data Before : List Rule → List Rule → Type 0 where
  sides : {D E : List Rule} → Before (NChoiceL ∷ D) (NChoiceR ∷ E)
  values : {d e : ℕ} {D E : List Rule} → d < e → Before (NSum d ∷ D) (NSum e ∷ E)
  later : {r : Rule} {D E : List Rule} → Before D E → Before (r ∷ D) (r ∷ E)

-- each derivation is before all that follow
abbrev pub Ascending : List Derived → Type 0
Ascending [] = Unit {0}
Ascending (z ∷ zs) = AllByRecursion (λ y. Before z.by y.by) zs × Ascending zs
