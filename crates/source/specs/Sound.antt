-- What makes a model sound, and when a language fits it.
--     InScope L S t    every expression in t is below the count and names only variables in scope, S being the scope above
--     Fits L m         so it is in the body of each process, under its parameters
--     Sound m          what every accepted model has
use Rattle.std.specs.Prelude.{◌≡◌, ℕ, suc, ◌-◌, ◌<◌, ◌≤◌, Bool, true, ◌||◌, length, ◌==◌, slice_index}
use Rattle.std.specs.List.{AllByRecursion}
use Rattle.language.specs.Meanings.{Meaning}
use Rattle.model.specs.Trees.{Tree, call, when, choice, sum, action, delay}
use Rattle.source.specs.Models.{Model, node, process, param}

abbrev pub Scope : Type 0
Scope = ℕ → Bool

abbrev pub adding : ℕ → Scope → Scope
adding y S x = y == x || S x

module _ (L : Meaning) where
  -- expression e is below the count and names only variables in scope
  abbrev pub Within : Scope → ℕ → Type 0
  Within S e = (e < L.count) × ((x : ℕ) → L.names e x ≡ true → S x ≡ true)

  abbrev pub InScope : Scope → Tree → Type 0
  InScope S (call n p es) = AllByRecursion (Within S) es
  InScope S (when n e t) = Within S e × InScope S t
  InScope S (choice n l r) = InScope S l × InScope S r
  InScope S (sum n x t) = InScope (adding x S) t
  InScope S (action n a es x w t) = AllByRecursion (Within S) es × Within (adding x S) w × InScope (adding x S) t
  InScope S (delay n r t) = Within S r × InScope S t

  abbrev pub Fits : Model → Type 0
  Fits m = AllByRecursion (λ q. InScope (param q) q.body) m.processes

-- Each variable is bound once: by the node that `owner` gives, plus 1, or, where that is 0, as a parameter. Nodes from k on, children higher.
abbrev pub Owned : (ℕ → ℕ) → ℕ → Tree → Type 0
Owned owner k (call n p es) = Unit {0}
Owned owner k (when n e t) = (k ≤ n) × Owned owner (suc n) t
Owned owner k (choice n l r) = (k ≤ n) × Owned owner (suc n) l × Owned owner (suc n) r
Owned owner k (sum n x t) = (k ≤ n) × (owner x ≡ suc n) × Owned owner (suc n) t
Owned owner k (action n a es x w t) = (k ≤ n) × (owner x ≡ suc n) × Owned owner (suc n) t
Owned owner k (delay n r t) = (k ≤ n) × Owned owner (suc n) t

-- Every call names a process, and has as many arguments as that has parameters.
abbrev pub Calls : Model → Tree → Type 0
Calls m (call n p es) = (p < length m.processes) × (length es ≡ (process m p).params)
Calls m (when n e t) = Calls m t
Calls m (choice n l r) = Calls m l × Calls m r
Calls m (sum n x t) = Calls m t
Calls m (action n a es x w t) = Calls m t
Calls m (delay n r t) = Calls m t

-- Each tree of a model is the tree of its node, and each node is below K.
abbrev pub Here : Model → (ℕ → Tree) → Tree → Type 0
Here m tree t = (node t < m.nodes) × (tree (node t) ≡ t)

abbrev pub Numbered : Model → (ℕ → Tree) → Tree → Type 0
Numbered m tree (call n p es) = Here m tree (call n p es)
Numbered m tree (when n e t) = Here m tree (when n e t) × Numbered m tree t
Numbered m tree (choice n l r) = Here m tree (choice n l r) × Numbered m tree l × Numbered m tree r
Numbered m tree (sum n x t) = Here m tree (sum n x t) × Numbered m tree t
Numbered m tree (action n a es x w t) = Here m tree (action n a es x w t) × Numbered m tree t
Numbered m tree (delay n r t) = Here m tree (delay n r t) × Numbered m tree t

pub record Sound (m : Model) : Type 0 where
  pub tree : ℕ → Tree
  pub numbered : AllByRecursion (λ q. Numbered m tree q.body) m.processes
  pub called : AllByRecursion (λ q. Calls m q.body) m.processes
  pub starts : m.begins < length m.processes
  pub sizes : (x : ℕ) → x < length m.sizes → 0 < slice_index m.sizes x
  pub values : (x : ℕ) → x < length m.sizes → param (process m m.begins) x ≡ true → slice_index m.values (x - (process m m.begins).first) < slice_index m.sizes x
  pub owner : ℕ → ℕ
  pub owned : AllByRecursion (λ q. ((x : ℕ) → param q x ≡ true → owner x ≡ 0) × Owned owner 0 q.body) m.processes
