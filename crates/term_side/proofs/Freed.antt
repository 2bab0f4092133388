-- A side that keeps the free variables has the transitions of the model.
use Rattle.std.proofs.Common.{◌≡◌, ℕ, ◌<◌, Bool, cond, List, [], ◌++◌, length, set, refl, ap, ap₂}
use mathlib.Core.Path.{fun_ext}
use Rattle.std.specs.List.{flat_map, AllByRecursion}
use Rattle.std.proofs.ByRecursion.{All-get_or}
use Rattle.language.specs.Meanings.{Meaning}
use Rattle.model.specs.Trees.{Tree, call, when, choice, sum, action, delay}
use Rattle.valuation.specs.Valuations.{values_of, each, holds}
use Rattle.valuation.specs.Doings.{acts, waits, does}
use Rattle.source.specs.Free.{free}
use Rattle.source.specs.Models.{Model, no_process, next, node, process}
use Rattle.source.specs.Sound.{Calls, Numbered}
use Rattle.source.specs.Terms.{term, target, transitions}
use Rattle.term_side.specs.Meanings.{kept_term, kept_target, kept_transitions}

-- the trees of a model's bodies, and of what stands below them, are those of their nodes
module _ (L : Meaning) (m : Model) (tree : ℕ → Tree) (bodies : AllByRecursion (λ q. Numbered m tree q.body) m.processes) where
  abbrev freely : ℕ → ℕ → Bool
  freely n x = free L (tree n) x

  here : (t : Tree) → Numbered m tree t → tree (node t) ≡ t
  here (call n p es) h = h.1
  here (when n e t) h = h.0.1
  here (choice n l r) h = h.0.1
  here (sum n x t) h = h.0.1
  here (action n a es x w t) h = h.0.1
  here (delay n r t) h = h.0.1

  freed_term : (t : Tree) (v : ℕ → ℕ) → tree (node t) ≡ t → kept_term L m freely t v ≡ term L m.sizes t v
  freed_term t v e = ap (λ u. record { place = node t; values = each m.sizes (λ x. cond (free L u x) (v x) 0) }) e

  freed_body : (p : ℕ) (v : ℕ → ℕ) → p < length m.processes → kept_term L m freely (process m p).body v ≡ term L m.sizes (process m p).body v
  freed_body p v h = freed_term (process m p).body v (here (process m p).body (All-get_or (λ q. Numbered m tree q.body) m.processes p no_process h bodies))

  freed_target : (t : Tree) → Numbered m tree t → Calls m t → (ρ : List ℕ) → kept_target L m freely (next t) ρ ≡ target L m (next t) ρ
  freed_target (call n p es) h c ρ = freed_body p _ c.0
  freed_target (when n e t) h c ρ = freed_term (when n e t) _ h.0.1
  freed_target (choice n l r) h c ρ = freed_term (choice n l r) _ h.0.1
  freed_target (sum n x t) h c ρ = freed_term (sum n x t) _ h.0.1
  freed_target (action n a es x w t) h c ρ = freed_term (action n a es x w t) _ h.0.1
  freed_target (delay n r t) h c ρ = freed_term (delay n r t) _ h.0.1

  pub freed : (t : Tree) → Numbered m tree t → Calls m t → (ρ : List ℕ) → kept_transitions L m freely t ρ ≡ transitions L m t ρ
  freed (call n p es) h c ρ = refl
  freed (when n e t) h c ρ = ap (λ ts. cond (holds L e ρ) ts []) (freed t h.1 c ρ)
  freed (choice n l r) h c ρ = ap₂ ◌++◌ (freed l h.1 c.0 ρ) (freed r h.2 c.1 ρ)
  freed (sum n x t) h c ρ = ap (λ f. flat_map f (values_of m.sizes x)) (fun_ext (λ d. freed t h.1 c (set ρ x d)))
  freed (action n a es x w t) h c ρ = ap (λ to. does L m.sizes (acts a es x w) to ρ) (fun_ext (freed_target t h.1 c))
  freed (delay n r t) h c ρ = ap (λ to. does L m.sizes (waits r) to ρ) (fun_ext (freed_target t h.1 c))
