-- What the flat model of an accepted file has, over its lists.
--     Fits g n s     what s, as node n, names is there
--     owner_of g v   one more than the node that binds v; 0 where a parameter does
--     Made g         all of it
use Rattle.std.specs.Prelude.{◌≡◌, ℕ, suc, ◌+◌, ◌<◌, ◌≤◌, Bool, false, cond, List, [], ◌∷◌, length, slice_index, slice_index_or, Some, ◌==◌}
use Rattle.std.specs.List.{slice_get}
use Rattle.model_file.specs.Limits.{Between, Run}
use Rattle.model_rules.specs.Shapes.{Shape}
use Rattle.model_rules.specs.declared.shape.Shape.TheVariants.{Call, Condition, Choice, Sum, Action, Delay}
use Rattle.model_rules.specs.Sound.{Bound}
use Rattle.model.specs.declared.node.Process.{Process}
use Rattle.model.specs.Flat.{Flat}
use Rattle.model.specs.Nodes.{no_process, call_arity, action_arity, arguments_from}
use Rattle.model.specs.Trees.{planted, tree_of}

abbrev pub bound_by : Shape → ℕ → Bool
bound_by (Call p f) v = false
bound_by (Condition x c) v = false
bound_by (Choice x y) v = false
bound_by (Sum u c) v = u == v
bound_by (Action a f u w c) v = u == v
bound_by (Delay r c) v = false

abbrev pub owner_from : ℕ → List Shape → ℕ → ℕ
owner_from i [] v = 0
owner_from i (s ∷ ss) v = cond (bound_by s v) (suc i) (owner_from (suc i) ss v)

module _ (g : Flat) where
  abbrev pub owner_of : ℕ → ℕ
  owner_of v = owner_from 0 g.nodes v

  abbrev pub process_in : ℕ → Process
  process_in i = slice_index_or g.processes i no_process

  -- v is a parameter of q
  abbrev pub IsParameter : Process → ℕ → Type 0
  IsParameter q v = (q.first ≤ v) × (v < q.first + q.number)

  abbrev pub ChildIn : ℕ → ℕ → Type 0
  ChildIn n c = (n < c) × (c < length g.nodes)

  -- k arguments from argument f on
  abbrev pub ArgumentsIn : ℕ → ℕ → Type 0
  ArgumentsIn f k = length (arguments_from g f k) ≡ k

  abbrev pub Fits : ℕ → Shape → Type 0
  Fits n (Call p f) = (p < length g.processes) × ArgumentsIn f (call_arity g p)
  Fits n (Condition x c) = ChildIn n c
  Fits n (Choice x y) = ChildIn n x × ChildIn n y
  Fits n (Sum v c) = (v < length g.sizes) × ChildIn n c
  Fits n (Action a f v w c) = (a < length g.arities) × ArgumentsIn f (action_arity g a) × (v < length g.sizes) × ChildIn n c
  Fits n (Delay r c) = ChildIn n c

  pub record Made : Type 0 where
    pub variables : length g.sizes ≤ 16
    pub sizes : (v : ℕ) → v < length g.sizes → Between 1 256 (slice_index g.sizes v)
    pub parameters : (i : ℕ) → i < length g.processes → ((process_in i).number ≤ 8) × Run (length g.sizes) (process_in i).first (process_in i).number
    pub bodies : (i : ℕ) → i < length g.processes → (process_in i).body < length g.nodes
    pub start : g.start < length g.processes
    pub start_values : length g.values ≡ (process_in g.start).number
    pub values : (k : ℕ) → k < length g.values → slice_index g.values k < slice_index g.sizes ((process_in g.start).first + k)
    pub internal : slice_index g.arities 0 ≡ 0
    pub arities : (a : ℕ) → a < length g.arities → slice_index g.arities a ≤ 4
    pub few : length g.nodes ≤ 256
    pub nodes : (n : ℕ) (s : Shape) → slice_get g.nodes n ≡ Some s → Fits n s
    pub trees : (n : ℕ) (s : Shape) → slice_get g.nodes n ≡ Some s → tree_of g n ≡ planted g n s (tree_of g)
    pub own_nodes : (n : ℕ) (s : Shape) → slice_get g.nodes n ≡ Some s → (v : ℕ) → Bound s v → owner_of v ≡ suc n
    pub own_parameters : (i : ℕ) → i < length g.processes → (v : ℕ) → IsParameter (process_in i) v → owner_of v ≡ 0
