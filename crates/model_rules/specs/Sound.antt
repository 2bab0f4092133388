-- What the nodes of a model file keep, each rule by itself and in the words of the format.
--     IsNode n s      the record of node n is the record of s
--     Names n s       what s names is there, as node n
--     Stands n x      node n is the body of a process, or a child of a node, at the place x
--     Binds v x       variable v is bound at x
--     Once P          exactly one thing has P
--     Moved, Resting  a child of an action or a delay; a resting place
--     Way n m s c p   a way down from n to m, with s sums, c conditions and the product p of the sums' sizes
--     Sound bs        all the rules
use Rattle.std.specs.Prelude.{◌≡◌, ℕ, suc, ◌+◌, ◌*◌, ◌<◌, ◌≤◌, ◌⊎◌, List, length, slice_index}
use Rattle.words.specs.Words.{word_at}
use Rattle.model_file.specs.declared.layout.Layout.{Layout}
use Rattle.model_file.specs.Fields.{variable_count, size_of, process_count, first_of, number_of, body_of, action_count, arity_of, node_count, argument_count}
use Rattle.model_file.specs.Layouts.{layout_of, node_at}
use Rattle.model_file.specs.Limits.{Run}
use Rattle.model_rules.specs.Shapes.{Shape, six, fields_of, children_of}
use Rattle.model_rules.specs.declared.shape.Shape.TheVariants.{Call, Condition, Choice, Sum, Action, Delay}

abbrev pub Once : {X : Type 0} → (X → Type 0) → Type 0
Once {X} P = (x : X) × P x × ((y : X) → P y → y ≡ x)

-- a sum and an action bind a variable
abbrev pub Bound : Shape → ℕ → Type 0
Bound (Call p f) v = ⊥
Bound (Condition x c) v = ⊥
Bound (Choice x y) v = ⊥
Bound (Sum u c) v = u ≡ v
Bound (Action a f u w c) v = u ≡ v
Bound (Delay r c) v = ⊥

-- an action and a delay lead to their child
abbrev pub LeadsTo : Shape → ℕ → Type 0
LeadsTo (Call p f) n = ⊥
LeadsTo (Condition x c) n = ⊥
LeadsTo (Choice x y) n = ⊥
LeadsTo (Sum v c) n = ⊥
LeadsTo (Action a f v w c) n = c ≡ n
LeadsTo (Delay r c) n = c ≡ n

-- the body of process i; child k of node m, from the left
pub data Place : Type 0 where
  body : (i : ℕ) → Place
  child : (m k : ℕ) → Place

-- a parameter of process i; node m
pub data Binder : Type 0 where
  parameter : (i : ℕ) → Binder
  node : (m : ℕ) → Binder

module _ (bs : List ℕ) (l : Layout) where
  abbrev pub node_words : ℕ → List ℕ
  node_words n = let p = node_at l n in six (word_at bs p) (word_at bs (p + 2)) (word_at bs (p + 4)) (word_at bs (p + 6)) (word_at bs (p + 8)) (word_at bs (p + 10))

  abbrev pub IsNode : ℕ → Shape → Type 0
  IsNode n s = (n < node_count bs l) × (node_words n ≡ fields_of s)

  -- a child is a node, and higher
  abbrev pub Child : ℕ → ℕ → Type 0
  Child n c = (n < c) × (c < node_count bs l)

  abbrev pub Names : ℕ → Shape → Type 0
  Names n (Call p f) = (p < process_count bs l) × Run (argument_count bs l) f (number_of bs l p)
  Names n (Condition x c) = Child n c
  Names n (Choice x y) = Child n x × Child n y
  Names n (Sum v c) = (v < variable_count bs) × Child n c
  Names n (Action a f v w c) = (a < action_count bs l) × Run (argument_count bs l) f (arity_of bs l a) × (v < variable_count bs) × Child n c
  Names n (Delay r c) = Child n c

  abbrev pub IsBody : ℕ → ℕ → Type 0
  IsBody n i = (i < process_count bs l) × (body_of bs l i ≡ n)

  abbrev pub Stands : ℕ → Place → Type 0
  Stands n (body i) = IsBody n i
  Stands n (child m k) = (s : Shape) × IsNode m s × (k < length (children_of s)) × (slice_index (children_of s) k ≡ n)

  abbrev pub Binds : ℕ → Binder → Type 0
  Binds v (parameter i) = (i < process_count bs l) × (first_of bs l i ≤ v) × (v < first_of bs l i + number_of bs l i)
  Binds v (node m) = (s : Shape) × IsNode m s × Bound s v

  abbrev pub Moved : ℕ → Type 0
  Moved n = (m : ℕ) × (s : Shape) × IsNode m s × LeadsTo s n

  abbrev pub IsCall : ℕ → Type 0
  IsCall n = (p : ℕ) × (f : ℕ) × IsNode n (Call p f)

  abbrev pub Resting : ℕ → Type 0
  Resting n = ((i : ℕ) × IsBody n i) ⊎ (Moved n × (IsCall n → ⊥))

  pub data Way (n : ℕ) : ℕ → ℕ → ℕ → ℕ → Type 0 where
    here : Way n n 0 0 1
    condition : {m s c p x y : ℕ} → Way n m s c p → IsNode m (Condition x y) → Way n y s (suc c) p
    left : {m s c p x y : ℕ} → Way n m s c p → IsNode m (Choice x y) → Way n x s c p
    right : {m s c p x y : ℕ} → Way n m s c p → IsNode m (Choice x y) → Way n y s c p
    sum : {m s c p v y : ℕ} → Way n m s c p → IsNode m (Sum v y) → Way n y (suc s) c (p * size_of bs v)

  -- an action or a delay
  abbrev pub Ends : ℕ → Type 0
  Ends m = (s : Shape) × (c : ℕ) × IsNode m s × LeadsTo s c

  pub record Soundly : Type 0 where
    pub bodies : (i : ℕ) → i < process_count bs l → body_of bs l i < node_count bs l
    pub kinds : (n : ℕ) → n < node_count bs l → (s : Shape) × IsNode n s
    pub names : (n : ℕ) (s : Shape) → IsNode n s → Names n s
    pub placed : (n : ℕ) → n < node_count bs l → Once (Stands n)
    pub bound : (v : ℕ) → v < variable_count bs → Once (Binds v)
    pub calls : (n : ℕ) → IsCall n → Moved n
    pub ways : (n m s c p : ℕ) → Resting n → Way n m s c p → Ends m → (s ≤ 8) × (c ≤ 8) × (p ≤ 65536)

abbrev pub Sound : List ℕ → Type 0
Sound bs = Soundly bs (layout_of bs)
