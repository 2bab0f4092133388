-- The decoder and the table of the format agree. Assumes nothing.
use Rattle.std.proofs.Common.{◌≡◌, ℕ, ◌+◌, ◌<◌, List, Some, arith}
use Rattle.std.proofs.lemmas.Bool.Decides.{nat_tests}
use Rattle.words.specs.Words.{word_at}
use Rattle.model_file.specs.declared.layout.Layout.{Layout}
use Rattle.model_file.specs.Fields.{node_count}
use Rattle.model_file.specs.Layouts.{node_at}
use Rattle.model_rules.specs.Shapes.{Shape, shape_of, shape_at, six, fields_of}
use Rattle.model_rules.specs.declared.shape.Shape.TheVariants.{Call, Condition, Choice, Sum, Action, Delay}
use Rattle.model_rules.specs.Sound.{IsNode}

module _ (k a b c d e : ℕ) where
  pub decoded : (s : Shape) → shape_of k a b c d e ≡ Some s → six k a b c d e ≡ fields_of s
  decoded (Call p f) h = grind (arith, nat_tests)
  decoded (Condition x y) h = grind (arith, nat_tests)
  decoded (Choice x y) h = grind (arith, nat_tests)
  decoded (Sum v y) h = grind (arith, nat_tests)
  decoded (Action x f v w y) h = grind (arith, nat_tests)
  decoded (Delay r y) h = grind (arith, nat_tests)

  pub encoded : (s : Shape) → six k a b c d e ≡ fields_of s → shape_of k a b c d e ≡ Some s
  encoded (Call p f) h = grind (arith, nat_tests)
  encoded (Condition x y) h = grind (arith, nat_tests)
  encoded (Choice x y) h = grind (arith, nat_tests)
  encoded (Sum v y) h = grind (arith, nat_tests)
  encoded (Action x f v w y) h = grind (arith, nat_tests)
  encoded (Delay r y) h = grind (arith, nat_tests)

module _ (bs : List ℕ) (l : Layout) where
  pub is_node : (n : ℕ) (s : Shape) → n < node_count bs l → shape_at bs l n ≡ Some s → IsNode bs l n s
  is_node n s low h = let p = node_at l n in (low, decoded (word_at bs p) (word_at bs (p + 2)) (word_at bs (p + 4)) (word_at bs (p + 6)) (word_at bs (p + 8)) (word_at bs (p + 10)) s h)

  pub shape_is : (n : ℕ) (s : Shape) → IsNode bs l n s → shape_at bs l n ≡ Some s
  shape_is n s (low, h) = let p = node_at l n in encoded (word_at bs p) (word_at bs (p + 2)) (word_at bs (p + 4)) (word_at bs (p + 6)) (word_at bs (p + 8)) (word_at bs (p + 10)) s h
