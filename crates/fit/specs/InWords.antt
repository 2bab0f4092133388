-- When a language fits a model, in words.
--     Reads u e         the node at the root of u has the expression e for an argument, a condition or a rate
--     Weighs u e        it is an action of weight e
--     BoundAbove s x    on the way s down to a node, a sum or an action strictly above that node binds x
--     IsParameter q x   x is one of the parameters of the process q, which it counts from its first one on
--     Known q s x       x is in scope where the way s down the tree of q ends
--     Suits L m         every expression used in the tree of a process is below the count, and names only variables in scope
use Rattle.std.specs.Prelude.{◌≡◌, ℕ, ◌+◌, ◌<◌, true, ◌⊎◌, Some}
use Rattle.std.specs.List.{slice_get}
use Rattle.language.specs.Meanings.{Meaning}
use Rattle.model.specs.Trees.{Tree, call, when, choice, sum, action, delay}
use Rattle.source.specs.Free.{Sub, here, in_when, in_left, in_right, in_sum, in_action, in_delay, BindsIt}
use Rattle.source.specs.Models.{Process, Model}

abbrev pub Reads : Tree → ℕ → Type 0
Reads (call n p es) e = (k : ℕ) × (slice_get es k ≡ Some e)
Reads (when n c t) e = c ≡ e
Reads (choice n l r) e = ⊥
Reads (sum n x t) e = ⊥
Reads (action n a es x w t) e = (k : ℕ) × (slice_get es k ≡ Some e)
Reads (delay n r t) e = r ≡ e

abbrev pub Weighs : Tree → ℕ → Type 0
Weighs (call n p es) e = ⊥
Weighs (when n c t) e = ⊥
Weighs (choice n l r) e = ⊥
Weighs (sum n x t) e = ⊥
Weighs (action n a es x w t) e = w ≡ e
Weighs (delay n r t) e = ⊥

abbrev pub BoundAbove : {u t : Tree} → Sub u t → ℕ → Type 0
BoundAbove here x = ⊥
BoundAbove (in_when s) x = BoundAbove s x
BoundAbove (in_left s) x = BoundAbove s x
BoundAbove (in_right s) x = BoundAbove s x
BoundAbove (in_sum {n} {x = y} s) x = (y ≡ x) ⊎ BoundAbove s x
BoundAbove (in_action {n} {a} {es} {x = y} s) x = (y ≡ x) ⊎ BoundAbove s x
BoundAbove (in_delay s) x = BoundAbove s x

abbrev pub IsParameter : Process → ℕ → Type 0
IsParameter q x = (i : ℕ) × (i < q.params) × (x ≡ q.first + i)

abbrev pub Known : (q : Process) {u : Tree} → Sub u q.body → ℕ → Type 0
Known q s x = IsParameter q x ⊎ BoundAbove s x

pub record Suits (L : Meaning) (m : Model) : Type 0 where
  pub reads : (p : ℕ) (q : Process) → slice_get m.processes p ≡ Some q → (u : Tree) (s : Sub u q.body) (e : ℕ) → Reads u e
      → (e < L.count) × ((x : ℕ) → L.names e x ≡ true → Known q s x)
  -- an action's weight may name its own variable too
  pub weighs : (p : ℕ) (q : Process) → slice_get m.processes p ≡ Some q → (u : Tree) (s : Sub u q.body) (e : ℕ) → Weighs u e
      → (e < L.count) × ((x : ℕ) → L.names e x ≡ true → Known q s x ⊎ BindsIt u x)
