-- The model file of a flat model: the header, and six sections of words, high byte first.
--     words_of g    the words of the six sections
--     file_of g     the whole file
use Rattle.std.specs.Prelude.{ℕ, List, [], ◌∷◌, ◌++◌, length}
use Rattle.std.specs.List.{flat_map}
use Rattle.words.specs.Headers.{headed}
use Rattle.words.specs.Words.{bytes_of}
use Rattle.model_rules.specs.Shapes.{fields_of}
use Rattle.model.specs.declared.node.Process.{Process}
use Rattle.model.specs.Flat.{Flat}

abbrev pub process_words : Process → List ℕ
process_words q = q.first ∷ (q.number ∷ (q.body ∷ []))

abbrev pub words_of : Flat → List ℕ
words_of g =
    (length g.sizes ∷ g.sizes)
    ++ ((length g.processes ∷ flat_map process_words g.processes)
    ++ ((g.start ∷ g.values)
    ++ ((length g.arities ∷ g.arities)
    ++ ((length g.nodes ∷ flat_map fields_of g.nodes)
    ++ (length g.arguments ∷ g.arguments)))))

abbrev pub file_of : Flat → List ℕ
file_of g = headed (bytes_of (words_of g))
