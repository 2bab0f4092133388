-- Nodes by their kind.
--     shape_of k a b c d e   the node of this kind and these fields, if there is one
--     shape_at bs l n        the node whose record has this number
--     fields_of s            the six words of a node's record: its kind and five fields, 0 where the kind does not list one
--     children_of s          its children, from the left
use Rattle.std.specs.Prelude.{ℕ, ◌+◌, Bool, cond, ◌&&◌, List, [], ◌∷◌, Some, None, Option, ◌==◌}
use Rattle.words.specs.Words.{word_at}
use Rattle.model_file.specs.declared.layout.Layout.{Layout}
use Rattle.model_file.specs.Layouts.{node_at}
use Rattle.model_rules.specs.declared.shape.Shape as declared
use Rattle.model_rules.specs.declared.shape.Shape.TheVariants.{Call, Condition, Choice, Sum, Action, Delay}

-- a node as the file has it, with the number of its first argument
abbrev pub Shape : Type 0
Shape = declared.Shape ℕ

abbrev pub zeros : ℕ → ℕ → ℕ → Bool
zeros c d e = c == 0 && d == 0 && e == 0

abbrev pub given : Bool → Shape → Option Shape
given b s = cond b (Some s) None

-- one case for each kind; the fields that it does not list are 0
abbrev pub shape_of : ℕ → ℕ → ℕ → ℕ → ℕ → ℕ → Option Shape
shape_of kind a b c d e =
    cond (kind == 1) (given (zeros c d e) (Call a b))
    (cond (kind == 2) (given (zeros c d e) (Condition a b))
    (cond (kind == 3) (given (zeros c d e) (Choice a b))
    (cond (kind == 4) (given (zeros c d e) (Sum a b))
    (cond (kind == 5) (Some (Action a b c d e))
    (cond (kind == 6) (given (zeros c d e) (Delay a b)) None)))))

abbrev pub shape_from : List ℕ → ℕ → Option Shape
shape_from bs p = shape_of (word_at bs p) (word_at bs (p + 2)) (word_at bs (p + 4)) (word_at bs (p + 6)) (word_at bs (p + 8)) (word_at bs (p + 10))

abbrev pub shape_at : List ℕ → Layout → ℕ → Option Shape
shape_at bs l n = shape_from bs (node_at l n)

abbrev pub six : ℕ → ℕ → ℕ → ℕ → ℕ → ℕ → List ℕ
six k a b c d e = k ∷ (a ∷ (b ∷ (c ∷ (d ∷ (e ∷ [])))))

abbrev pub fields_of : Shape → List ℕ
fields_of (Call p f) = six 1 p f 0 0 0
fields_of (Condition x c) = six 2 x c 0 0 0
fields_of (Choice x y) = six 3 x y 0 0 0
fields_of (Sum v c) = six 4 v c 0 0 0
fields_of (Action a f v w c) = six 5 a f v w c
fields_of (Delay r c) = six 6 r c 0 0 0

abbrev pub children_of : Shape → List ℕ
children_of (Call p f) = []
children_of (Condition x c) = c ∷ []
children_of (Choice x y) = x ∷ (y ∷ [])
children_of (Sum v c) = c ∷ []
children_of (Action a f v w c) = c ∷ []
children_of (Delay r c) = c ∷ []
