-- The layout by its counts, one section after another. Assumes nothing.
use Rattle.std.proofs.Common.{◌≡◌, ℕ, ◌+◌, ◌*◌, List, refl}
use Rattle.words.specs.Words.{word_at}
use Rattle.model_file.specs.declared.layout.Layout.{Layout}
use Rattle.model_file.specs.Layouts.{after, processes_at, start_at, actions_at, nodes_at, arguments_at, layout_of}
use Rattle.model_file.specs.Fields.{variable_count, process_count, number_of, start_of, action_count, node_count}

-- l is the layout that the counts of bs give
pub record Laid (bs : List ℕ) (l : Layout) : Type 0 where
  pub processes : l.processes ≡ 7 + 2 * variable_count bs
  pub start : l.start ≡ l.processes + 2 + 6 * process_count bs l
  pub actions : l.actions ≡ l.start + 2 + 2 * number_of bs l (start_of bs l)
  pub nodes : l.nodes ≡ l.actions + 2 + 2 * action_count bs l
  pub arguments : l.arguments ≡ l.nodes + 2 + 12 * node_count bs l

module _ (bs : List ℕ) where
  pub processes_is : processes_at bs ≡ 7 + 2 * word_at bs 5
  unfolding processes_at
  processes_is = refl

  pub start_is : start_at bs ≡ after bs (processes_at bs) 6
  unfolding start_at
  start_is = refl

  pub actions_is : actions_at bs ≡ start_at bs + 2 + 2 * word_at bs (processes_at bs + 2 + 6 * word_at bs (start_at bs) + 2)
  unfolding actions_at
  actions_is = refl

  pub nodes_is : nodes_at bs ≡ after bs (actions_at bs) 2
  unfolding nodes_at
  nodes_is = refl

  pub arguments_is : arguments_at bs ≡ after bs (nodes_at bs) 12
  unfolding arguments_at
  arguments_is = refl

  pub laid : Laid bs (layout_of bs)
  laid = record { processes = processes_is; start = start_is; actions = actions_is; nodes = nodes_is; arguments = arguments_is }

  pub located : (v p s n a k : ℕ) → v ≡ word_at bs 5
      → p ≡ word_at bs (7 + 2 * v)
      → s ≡ word_at bs (7 + 2 * v + 2 + 6 * p)
      → n ≡ word_at bs (7 + 2 * v + 2 + 6 * s + 2)
      → a ≡ word_at bs (7 + 2 * v + 2 + 6 * p + 2 + 2 * n)
      → k ≡ word_at bs (7 + 2 * v + 2 + 6 * p + 2 + 2 * n + 2 + 2 * a)
      → ◌≡◌ {A = Layout}
      record { processes = 7 + 2 * v; start = 7 + 2 * v + 2 + 6 * p; actions = 7 + 2 * v + 2 + 6 * p + 2 + 2 * n; nodes = 7 + 2 * v + 2 + 6 * p + 2 + 2 * n + 2 + 2 * a; arguments = 7 + 2 * v + 2 + 6 * p + 2 + 2 * n + 2 + 2 * a + 2 + 12 * k }
      (layout_of bs)
  located v p s n a k ev ep es en ea ek =
      let a1 = processes_is in
      let a2 = start_is in
      let a3 = actions_is in
      let a4 = nodes_is in
      let a5 = arguments_is in
      cc
