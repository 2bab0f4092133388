-- What a node that a model hands out names and binds by itself.
--     words_in bs       the words of bytes, high byte first
--     own_names L v x   the node uses an expression that names x
--     own_binds v x     it binds x
--     any_child p v     one of its children has p
--     carried_by q p o  the node o itself has q, or one of its children has p; where there is no node, not
--     Rises n k         the children of the shape k at node n are higher
--     RisesFrom i ks    so they are in each of the shapes, the first of them at node i
use Rattle.std.specs.Prelude.{ℕ, suc, ◌*◌, ◌/◌, ◌<◌, Bool, false, ◌||◌, List, [], ◌∷◌, map, length, Some, None, Option, ◌==◌}
use Rattle.std.specs.List.{range_with_len}
use Rattle.words.specs.Words.{word_at}
use Rattle.language.specs.Meanings.{Meaning}
use Rattle.model_rules.specs.Shapes.{Shape}
use Rattle.model_rules.specs.declared.shape.Shape.TheVariants.{Call, Condition, Choice, Sum, Action, Delay}
use Rattle.model.specs.Nodes.{NodeValue, call, condition, choice, sum, action, delay}
use Rattle.source.specs.Free.{named_in}

abbrev pub words_in : List ℕ → List ℕ
words_in bs = map (λ i. word_at bs (2 * i)) (range_with_len 0 (length bs / 2))

abbrev pub own_names : Meaning → NodeValue → ℕ → Bool
own_names L (call p bs) x = named_in L (words_in bs) x
own_names L (condition e c) x = L.names e x
own_names L (choice l r) x = false
own_names L (sum v c) x = false
own_names L (action a bs v w c) x = named_in L (words_in bs) x || L.names w x
own_names L (delay r c) x = L.names r x

abbrev pub own_binds : NodeValue → ℕ → Bool
own_binds (call p bs) x = false
own_binds (condition e c) x = false
own_binds (choice l r) x = false
own_binds (sum v c) x = v == x
own_binds (action a bs v w c) x = v == x
own_binds (delay r c) x = false

abbrev pub any_child : (ℕ → Bool) → NodeValue → Bool
any_child p (call q bs) = false
any_child p (condition e c) = p c
any_child p (choice l r) = p l || p r
any_child p (sum v c) = p c
any_child p (action a bs v w c) = p c
any_child p (delay r c) = p c

abbrev pub carried_by : (NodeValue → Bool) → (ℕ → Bool) → Option NodeValue → Bool
carried_by q p None = false
carried_by q p (Some v) = q v || any_child p v

abbrev pub Rises : ℕ → Shape → Type 0
Rises n (Call p f) = Unit {0}
Rises n (Condition x c) = n < c
Rises n (Choice x y) = (n < x) × (n < y)
Rises n (Sum v c) = n < c
Rises n (Action a f v w c) = n < c
Rises n (Delay r c) = n < c

abbrev pub RisesFrom : ℕ → List Shape → Type 0
RisesFrom i [] = Unit {0}
RisesFrom i (k ∷ ks) = Rises i k × RisesFrom (suc i) ks
