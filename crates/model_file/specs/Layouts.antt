-- Where the sections and records of a model file stand, by the counts in its bytes.
--     layout_of bs                the layout that the bytes give, whatever they are
--     size_at v, process_at l i   where a record begins
--     end_at bs l                 where the file ends
use Rattle.std.specs.Prelude.{ℕ, ◌+◌, ◌*◌, List}
use Rattle.words.specs.Words.{word_at}
use Rattle.model_file.specs.declared.layout.Layout.{Layout}

abbrev pub size_at : ℕ → ℕ
size_at v = 7 + 2 * v

abbrev pub process_at : Layout → ℕ → ℕ
process_at l i = l.processes + 2 + 6 * i

abbrev pub value_at : Layout → ℕ → ℕ
value_at l k = l.start + 2 + 2 * k

abbrev pub arity_at : Layout → ℕ → ℕ
arity_at l a = l.actions + 2 + 2 * a

abbrev pub node_at : Layout → ℕ → ℕ
node_at l n = l.nodes + 2 + 12 * n

abbrev pub argument_at : Layout → ℕ → ℕ
argument_at l k = l.arguments + 2 + 2 * k

-- a section at p ends after its count and that many records
abbrev pub after : List ℕ → ℕ → ℕ → ℕ
after bs p width = p + 2 + width * word_at bs p

-- the variables section begins at 5
unfoldable pub processes_at : List ℕ → ℕ
processes_at bs = after bs 5 2

unfoldable pub start_at : List ℕ → ℕ
start_at bs = after bs (processes_at bs) 6

-- the start is a process, and as many values as that has parameters
unfoldable pub actions_at : List ℕ → ℕ
actions_at bs = start_at bs + 2 + 2 * word_at bs (processes_at bs + 2 + 6 * word_at bs (start_at bs) + 2)

unfoldable pub nodes_at : List ℕ → ℕ
nodes_at bs = after bs (actions_at bs) 2

unfoldable pub arguments_at : List ℕ → ℕ
arguments_at bs = after bs (nodes_at bs) 12

abbrev pub layout_of : List ℕ → Layout
layout_of bs = record { processes = processes_at bs; start = start_at bs; actions = actions_at bs; nodes = nodes_at bs; arguments = arguments_at bs }

abbrev pub end_at : List ℕ → Layout → ℕ
end_at bs l = after bs l.arguments 2
