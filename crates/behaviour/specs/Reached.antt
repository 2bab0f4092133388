-- What a model reaches by the published rules, and by which steps, the newest first.
use Rattle.std.specs.Prelude.{◌≡◌, ℕ, ◌<◌, List, [], ◌∷◌, length, Some, slice_index}
use Rattle.std.specs.List.{slice_get}
use Rattle.language.specs.Meanings.{Meaning}
use Rattle.valuation.specs.Transitions.{Outcome, move, wait}
use Rattle.system.specs.Questions.{padded, rate}
use Rattle.system.specs.declared.answers.Label.{Label}
use Rattle.system.specs.declared.answers.Step.{Step}
use Rattle.system.specs.declared.answers.Step.TheVariants.{Acted, Waited}
use Rattle.model.specs.Trees.{Tree}
use Rattle.source.specs.Models.{Model, Term, process}
use Rattle.source.specs.Rules.{Rule}
use Rattle.source.specs.Published.{AtParams, IsTerm, Derivation}

-- an action with its argument values, as a step of a trail has them
abbrev pub labelled : ℕ → List ℕ → Label
labelled a args = record { action = a; count = length args; values = padded args }

-- By no steps the start process's body with its values. By one step more, from a term reached by those before, the target
-- of a delay at its rate, or of outcome n, of positive weight, of a move with its action and arguments.
pub data Reached (L : Meaning) (m : Model) (tree : ℕ → Tree) : List Step → Term → Type 0 where
  begin : {s : Term} → IsTerm L m (process m m.begins).body (AtParams (process m m.begins) (λ i v. v ≡ slice_index m.values i)) s → Reached L m tree [] s
  delayed : {h : List Step} {s t : Term} {D : List Rule} {r : ℕ} → Reached L m tree h s → Derivation L m (tree s.place) s.values D (wait r t) → Reached L m tree (Waited (rate r) ∷ h) t
  moved : {h : List Step} {s : Term} {o : Outcome Term} {D : List Rule} {a : ℕ} {args : List ℕ} {outs : List (Outcome Term)} {n : ℕ} → Reached L m tree h s
      → Derivation L m (tree s.place) s.values D (move a args outs) → slice_get outs n ≡ Some o → 0 < o.weight → Reached L m tree (Acted (labelled a args) n ∷ h) o.to
