-- Whether a language fits a flat model: the nodes from 0 up.
--     beyond_at n g k      node k uses an expression from n up
--     strays_at L g k x    node k uses an expression that names x, which is not in scope there
--     stray_at L g k       so it is for some variable; expressions name variables below 16 only
--     fault_from L g n k   the first fault among n nodes from node k on; at one node an expression that is not there comes first
--     fit_of L g           the first fault of all nodes
use Rattle.std.specs.Prelude.{ℕ, zero, suc, ◌+◌, Bool, cond, length, Ok, Err, Result}
use Rattle.language.specs.Meanings.{Meaning}
use Rattle.model.specs.Flat.{Flat}
use Rattle.model.specs.Nodes.{node_in}
use Rattle.fit.specs.declared.fault.FitFault.{FitFault}
use Rattle.fit.specs.declared.fault.FitFault.TheVariants.{Expression, Variable}
use Rattle.fit.specs.Scopes.{any_below, in_node, in_scope}
use Rattle.fit.specs.Uses.{uses_beyond, strays}

abbrev pub beyond_at : ℕ → Flat → ℕ → Bool
beyond_at n g k = in_node (uses_beyond n) (node_in g k)

module _ (L : Meaning) (g : Flat) where
  abbrev pub strays_at : ℕ → ℕ → Bool
  strays_at k x = in_node (strays L x (in_scope g k x)) (node_in g k)

  abbrev pub stray_at : ℕ → Bool
  stray_at k = any_below (strays_at k) 16

  abbrev pub fault_from : ℕ → ℕ → Result (Unit {0}) FitFault
  fault_from zero k = Ok tt
  fault_from (suc n) k = cond (beyond_at L.count g k) (Err (Expression k)) (cond (stray_at k) (Err (Variable k)) (fault_from n (k + 1)))

  abbrev pub fit_of : Result (Unit {0}) FitFault
  fit_of = fault_from (length g.nodes) 0
