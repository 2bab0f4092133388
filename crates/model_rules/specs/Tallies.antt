-- How often nodes are placed and variables bound, counted over the records.
use Rattle.std.specs.Prelude.{ℕ, zero, suc, ◌+◌, Bool, true, false, cond, not, ◌&&◌, ◌||◌, List, [], ◌∷◌, Some, None, Option, ◌==◌, nat_le, nat_lt}
use Rattle.model_file.specs.declared.layout.Layout.{Layout}
use Rattle.model_file.specs.Fields.{process_count, first_of, number_of, body_of, node_count}
use Rattle.model_rules.specs.Shapes.{Shape, shape_at, children_of}
use Rattle.model_rules.specs.declared.shape.Shape.TheVariants.{Call, Condition, Choice, Sum, Action, Delay}

abbrev pub one : Bool → ℕ
one b = cond b 1 0

abbrev pub occurs : ℕ → List ℕ → ℕ
occurs n [] = 0
occurs n (x ∷ xs) = one (x == n) + occurs n xs

-- how often n is a child
abbrev pub children : ℕ → Option Shape → ℕ
children n None = 0
children n (Some s) = occurs n (children_of s)

-- the same, of an action or a delay
abbrev pub movers : ℕ → Option Shape → ℕ
movers n None = 0
movers n (Some (Call p f)) = 0
movers n (Some (Condition x c)) = 0
movers n (Some (Choice x y)) = 0
movers n (Some (Sum v c)) = 0
movers n (Some (Action a f v w c)) = one (c == n)
movers n (Some (Delay r c)) = one (c == n)

abbrev pub binders : ℕ → Option Shape → ℕ
binders v None = 0
binders v (Some (Call p f)) = 0
binders v (Some (Condition x c)) = 0
binders v (Some (Choice x y)) = 0
binders v (Some (Sum u c)) = one (u == v)
binders v (Some (Action a f u w c)) = one (u == v)
binders v (Some (Delay r c)) = 0

-- f i + f (i + 1) + ..., k in all
abbrev pub total : (ℕ → ℕ) → ℕ → ℕ → ℕ
total f zero i = 0
total f (suc k) i = f i + total f k (i + 1)

abbrev pub is_call : Option Shape → Bool
is_call None = false
is_call (Some (Call p f)) = true
is_call (Some (Condition x c)) = false
is_call (Some (Choice x y)) = false
is_call (Some (Sum v c)) = false
is_call (Some (Action a f v w c)) = false
is_call (Some (Delay r c)) = false

module _ (bs : List ℕ) (l : Layout) where
  -- v is a parameter of process i
  abbrev pub is_parameter : ℕ → ℕ → Bool
  is_parameter i v = nat_le (first_of bs l i) v && nat_lt v (first_of bs l i + number_of bs l i)

  -- the share of record i: whether its process has the body n, or the parameter v;
  -- how often its node has the child n, leads to it, or binds the variable v
  abbrev pub body_share : ℕ → ℕ → ℕ
  body_share n i = one (body_of bs l i == n)

  abbrev pub child_share : ℕ → ℕ → ℕ
  child_share n i = children n (shape_at bs l i)

  abbrev pub mover_share : ℕ → ℕ → ℕ
  mover_share n i = movers n (shape_at bs l i)

  abbrev pub parameter_share : ℕ → ℕ → ℕ
  parameter_share v i = one (is_parameter i v)

  abbrev pub binder_share : ℕ → ℕ → ℕ
  binder_share v i = binders v (shape_at bs l i)

  abbrev pub node_once : ℕ → Bool
  node_once n = total (body_share n) (process_count bs l) 0 + total (child_share n) (node_count bs l) 0 == 1

  abbrev pub variable_once : ℕ → Bool
  variable_once v = total (parameter_share v) (process_count bs l) 0 + total (binder_share v) (node_count bs l) 0 == 1

  -- the child of an action or a delay
  abbrev pub moved : ℕ → Bool
  moved n = nat_lt 0 (total (mover_share n) (node_count bs l) 0)

  abbrev pub body : ℕ → Bool
  body n = nat_lt 0 (total (body_share n) (process_count bs l) 0)

  abbrev pub call_placed : ℕ → Bool
  call_placed n = cond (is_call (shape_at bs l n)) (moved n) true

  abbrev pub resting : ℕ → Bool
  resting n = body n || (moved n && not (is_call (shape_at bs l n)))
