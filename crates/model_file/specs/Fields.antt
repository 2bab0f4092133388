-- The words of a model file by the names that they have in it, for a layout of its sections.
use Rattle.std.specs.Prelude.{ℕ, ◌+◌, List}
use Rattle.words.specs.Words.{word_at}
use Rattle.model_file.specs.declared.layout.Layout.{Layout}
use Rattle.model_file.specs.Layouts.{size_at, process_at, value_at, arity_at, argument_at}

module _ (bs : List ℕ) where
  abbrev pub variable_count : ℕ
  variable_count = word_at bs 5

  abbrev pub size_of : ℕ → ℕ
  size_of v = word_at bs (size_at v)

module _ (bs : List ℕ) (l : Layout) where
  abbrev pub process_count : ℕ
  process_count = word_at bs l.processes

  -- first parameter, number of parameters and body of process i
  abbrev pub first_of : ℕ → ℕ
  first_of i = word_at bs (process_at l i)

  abbrev pub number_of : ℕ → ℕ
  number_of i = word_at bs (process_at l i + 2)

  abbrev pub body_of : ℕ → ℕ
  body_of i = word_at bs (process_at l i + 4)

  abbrev pub start_of : ℕ
  start_of = word_at bs l.start

  abbrev pub value_of : ℕ → ℕ
  value_of k = word_at bs (value_at l k)

  abbrev pub action_count : ℕ
  action_count = word_at bs l.actions

  abbrev pub arity_of : ℕ → ℕ
  arity_of a = word_at bs (arity_at l a)

  abbrev pub node_count : ℕ
  node_count = word_at bs l.nodes

  abbrev pub argument_count : ℕ
  argument_count = word_at bs l.arguments

  abbrev pub argument_of : ℕ → ℕ
  argument_of k = word_at bs (argument_at l k)
