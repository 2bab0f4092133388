-- Writing down the flat model of a well-formed file gives the file again. Assumes that each byte is below 256.
use Rattle.std.proofs.Common.{◌≡◌, ℕ, ◌+◌, ◌*◌, ◌<◌, ◌≤◌, List, [], ◌∷◌, ◌++◌, length, get_or, take, drop, sym, refl, ap, ◌∙◌, append-nil, arith}
use Rattle.std.specs.List.{flat_map}
use Rattle.std.proofs.lemmas.List.{drop_all, drop-drop}
use Rattle.words.specs.Words.{word_at, bytes_of}
use Rattle.words.specs.Headers.{headed}
use Rattle.model_file.specs.declared.layout.Layout.{Layout}
use Rattle.model_file.specs.Fields.{variable_count, size_of, process_count, number_of, start_of, value_of, action_count, arity_of, node_count, argument_count, argument_of}
use Rattle.model_file.specs.Layouts.{layout_of, process_at, node_at, argument_at}
use Rattle.model_file.specs.Limits.{Limits}
use Rattle.model_file.proofs.Located.{Laid, laid}
use Rattle.model_rules.specs.Shapes.{Shape, fields_of}
use Rattle.model_rules.specs.Sound.{IsNode, node_words}
use Rattle.model_rules.proofs.Decoded.{shape_is}
use Rattle.model.specs.File.{process_words, words_of, file_of}
use Rattle.model.specs.Flat.{numbered, or_delay, process_of, node_of, flat_at, flat}
use Rattle.model.specs.WellFormed.{WellFormed}
use Rattle.model.proofs.Bytes.{bytes_append, bytes_take, bytes_drop, joined_single, words_from, words_there, section}
use Rattle.model.proofs.Numbered.{numbered_length}

-- what stands from p on, section after section
then : (bs xs ys : List ℕ) (p q r : ℕ) → drop p bs ≡ bytes_of xs ++ drop q bs → q ≡ r → drop r bs ≡ bytes_of ys → drop p bs ≡ bytes_of (xs ++ ys)
then bs xs ys p q r a e b = a ∙ ap (λ zs. bytes_of xs ++ zs) (ap (λ j. drop j bs) e ∙ b) ∙ sym (bytes_append xs ys)

module _ (bs : List ℕ) (low : (i : ℕ) → get_or bs i 0 < 256) where
  -- a record of words, at p
  abbrev Holds : ℕ → List ℕ → ℕ → Type 0
  Holds p ws w = drop p bs ≡ bytes_of ws ++ drop (p + w) bs

  one_word : (p : ℕ) → p + 2 ≤ length bs → Holds p (word_at bs p ∷ []) 2
  one_word p fit = words_there bs low 1 p fit

  three_words : (p : ℕ) → p + 6 ≤ length bs → Holds p (word_at bs p ∷ (word_at bs (p + 2) ∷ (word_at bs (p + 4) ∷ []))) 6
  three_words p fit =
      let e : word_at bs (p + 2 + 2) ≡ word_at bs (p + 4) = ap (word_at bs) (omega arith) in
      words_there bs low 3 p fit ∙ ap (λ x. bytes_of (word_at bs p ∷ (word_at bs (p + 2) ∷ (x ∷ []))) ++ drop (p + 6) bs) e

  six_are : (p : ℕ) → words_from bs p 6 ≡ word_at bs p ∷ (word_at bs (p + 2) ∷ (word_at bs (p + 4) ∷ (word_at bs (p + 6) ∷ (word_at bs (p + 8) ∷ (word_at bs (p + 10) ∷ [])))))
  six_are p =
      let e4 : word_at bs (p + 2 + 2) ≡ word_at bs (p + 4) = ap (word_at bs) (omega arith) in
      let e6 : word_at bs (p + 2 + 2 + 2) ≡ word_at bs (p + 6) = ap (word_at bs) (omega arith) in
      let e8 : word_at bs (p + 2 + 2 + 2 + 2) ≡ word_at bs (p + 8) = ap (word_at bs) (omega arith) in
      let e10 : word_at bs (p + 2 + 2 + 2 + 2 + 2) ≡ word_at bs (p + 10) = ap (word_at bs) (omega arith) in
      ap (λ x. word_at bs p ∷ (word_at bs (p + 2) ∷ (x ∷ (word_at bs (p + 2 + 2 + 2) ∷ (word_at bs (p + 2 + 2 + 2 + 2) ∷ (word_at bs (p + 2 + 2 + 2 + 2 + 2) ∷ [])))))) e4
      ∙ ap (λ x. word_at bs p ∷ (word_at bs (p + 2) ∷ (word_at bs (p + 4) ∷ (x ∷ (word_at bs (p + 2 + 2 + 2 + 2) ∷ (word_at bs (p + 2 + 2 + 2 + 2 + 2) ∷ [])))))) e6
      ∙ ap (λ x. word_at bs p ∷ (word_at bs (p + 2) ∷ (word_at bs (p + 4) ∷ (word_at bs (p + 6) ∷ (x ∷ (word_at bs (p + 2 + 2 + 2 + 2 + 2) ∷ [])))))) e8
      ∙ ap (λ x. word_at bs p ∷ (word_at bs (p + 2) ∷ (word_at bs (p + 4) ∷ (word_at bs (p + 6) ∷ (word_at bs (p + 8) ∷ (x ∷ [])))))) e10

  -- a section of words: its first word, and k more
  words_section : (f : ℕ → ℕ) (p k : ℕ) → ((j : ℕ) → f j ≡ word_at bs (p + 2 + 2 * j)) → p + 2 + 2 * k ≤ length bs
      → drop p bs ≡ bytes_of (word_at bs p ∷ numbered k f) ++ drop (p + 2 + 2 * k) bs
  words_section f p k is fit =
      section bs low (λ x. x ∷ []) f 2 p k (omega arith) (λ j lt. one_word (p + 2 + 2 * j) (omega arith) ∙ ap (λ x. bytes_of (x ∷ []) ++ drop (p + 2 + 2 * j + 2) bs) (sym (is j)))
      ∙ ap (λ xs. bytes_of (word_at bs p ∷ xs) ++ drop (p + 2 + 2 * k) bs) (joined_single (numbered k f))

  module _ (l : Layout) (at : Laid bs l) (m : Limits bs l) (kinds : (n : ℕ) → n < node_count bs l → (s : Shape) × IsNode bs l n s) where
    node_words_lem : (n : ℕ) (s : Shape) → IsNode bs l n s → node_words bs l n ≡ fields_of (node_of bs l n)
    node_words_lem n s is = is.1 ∙ ap (λ o. fields_of (or_delay o)) (sym (shape_is bs l n s is))

    -- the ends of the sections
    record Room : Type 0 where
      variables : 5 + 2 + 2 * variable_count bs ≤ length bs
      processes : l.processes + 2 + 6 * process_count bs l ≤ length bs
      start : l.start + 2 + 2 * number_of bs l (start_of bs l) ≤ length bs
      actions : l.actions + 2 + 2 * action_count bs l ≤ length bs
      nodes : l.nodes + 2 + 12 * node_count bs l ≤ length bs
      arguments : l.arguments + 2 + 2 * argument_count bs l ≡ length bs

    room : Room
    room =
        let e1 = at.processes in
        let e2 = at.start in
        let e3 = at.actions in
        let e4 = at.nodes in
        let e5 = at.arguments in
        let r6 : l.arguments + 2 + 2 * argument_count bs l ≡ length bs = m.whole in
        let r5 : l.nodes + 2 + 12 * node_count bs l ≤ length bs = omega arith in
        let r4 : l.actions + 2 + 2 * action_count bs l ≤ length bs = omega arith in
        let r3 : l.start + 2 + 2 * number_of bs l (start_of bs l) ≤ length bs = omega arith in
        let r2 : l.processes + 2 + 6 * process_count bs l ≤ length bs = omega arith in
        record { variables = omega arith; processes = r2; start = r3; actions = r4; nodes = r5; arguments = r6 }

    sixth : drop l.arguments bs ≡ bytes_of (argument_count bs l ∷ numbered (argument_count bs l) (argument_of bs l))
    sixth =
        let space = room.arguments in
        words_section (argument_of bs l) l.arguments (argument_count bs l) (λ j. refl) (omega arith)
        ∙ ap (λ xs. bytes_of (argument_count bs l ∷ numbered (argument_count bs l) (argument_of bs l)) ++ xs) (drop_all (l.arguments + 2 + 2 * argument_count bs l) bs (omega arith))
        ∙ append-nil (bytes_of (argument_count bs l ∷ numbered (argument_count bs l) (argument_of bs l)))

    fifth : drop l.nodes bs ≡ bytes_of (node_count bs l ∷ flat_map fields_of (numbered (node_count bs l) (node_of bs l))) ++ drop (l.nodes + 2 + 12 * node_count bs l) bs
    fifth =
        let space = room.nodes in
        section bs low fields_of (node_of bs l) 12 l.nodes (node_count bs l) (omega arith) (λ j lt.
        let k = kinds j lt in
        words_there bs low 6 (node_at l j) (omega arith)
        ∙ ap (λ ws. bytes_of ws ++ drop (node_at l j + 12) bs) (six_are (node_at l j) ∙ node_words_lem j k.0 k.1))

    second : drop l.processes bs ≡ bytes_of (process_count bs l ∷ flat_map process_words (numbered (process_count bs l) (process_of bs l))) ++ drop (l.processes + 2 + 6 * process_count bs l) bs
    second =
        let space = room.processes in
        section bs low process_words (process_of bs l) 6 l.processes (process_count bs l) (omega arith) (λ j lt. three_words (process_at l j) (omega arith))

    -- the words of the sections, as the counts in the file have them
    abbrev size_words : List ℕ
    size_words = variable_count bs ∷ numbered (variable_count bs) (size_of bs)

    abbrev process_section : List ℕ
    process_section = process_count bs l ∷ flat_map process_words (numbered (process_count bs l) (process_of bs l))

    abbrev start_words : List ℕ
    start_words = start_of bs l ∷ numbered (number_of bs l (start_of bs l)) (value_of bs l)

    abbrev action_words : List ℕ
    action_words = action_count bs l ∷ numbered (action_count bs l) (arity_of bs l)

    abbrev node_section : List ℕ
    node_section = node_count bs l ∷ flat_map fields_of (numbered (node_count bs l) (node_of bs l))

    abbrev argument_words : List ℕ
    argument_words = argument_count bs l ∷ numbered (argument_count bs l) (argument_of bs l)

    abbrev counted : List ℕ
    counted = size_words ++ (process_section ++ (start_words ++ (action_words ++ (node_section ++ argument_words))))

    all_words : drop 5 bs ≡ bytes_of counted
    all_words =
        then bs size_words (process_section ++ (start_words ++ (action_words ++ (node_section ++ argument_words)))) 5 (5 + 2 + 2 * variable_count bs) l.processes
        (words_section (size_of bs) 5 (variable_count bs) (λ j. refl) room.variables) (sym at.processes)
        (then bs process_section (start_words ++ (action_words ++ (node_section ++ argument_words))) l.processes (l.processes + 2 + 6 * process_count bs l) l.start second (sym at.start)
        (then bs start_words (action_words ++ (node_section ++ argument_words)) l.start (l.start + 2 + 2 * number_of bs l (start_of bs l)) l.actions
        (words_section (value_of bs l) l.start (number_of bs l (start_of bs l)) (λ j. refl) room.start) (sym at.actions)
        (then bs action_words (node_section ++ argument_words) l.actions (l.actions + 2 + 2 * action_count bs l) l.nodes
        (words_section (arity_of bs l) l.actions (action_count bs l) (λ j. refl) room.actions) (sym at.nodes)
        (then bs node_section argument_words l.nodes (l.nodes + 2 + 12 * node_count bs l) l.arguments fifth (sym at.arguments) sixth))))

    counts : (v v' p p' a a' n n' g g' : ℕ) → v ≡ v' → p ≡ p' → a ≡ a' → n ≡ n' → g ≡ g'
        → (v ∷ numbered (variable_count bs) (size_of bs)) ++ ((p ∷ flat_map process_words (numbered (process_count bs l) (process_of bs l))) ++ ((start_of bs l ∷ numbered (number_of bs l (start_of bs l)) (value_of bs l)) ++ ((a ∷ numbered (action_count bs l) (arity_of bs l)) ++ ((n ∷ flat_map fields_of (numbered (node_count bs l) (node_of bs l))) ++ (g ∷ numbered (argument_count bs l) (argument_of bs l))))))
        ≡ (v' ∷ numbered (variable_count bs) (size_of bs)) ++ ((p' ∷ flat_map process_words (numbered (process_count bs l) (process_of bs l))) ++ ((start_of bs l ∷ numbered (number_of bs l (start_of bs l)) (value_of bs l)) ++ ((a' ∷ numbered (action_count bs l) (arity_of bs l)) ++ ((n' ∷ flat_map fields_of (numbered (node_count bs l) (node_of bs l))) ++ (g' ∷ numbered (argument_count bs l) (argument_of bs l))))))
    counts v v' p p' a a' n n' g g' e1 e2 e4 e5 e6 = cc

    counted_is : counted ≡ words_of (flat_at bs l)
    counted_is =
        let e1 = numbered_length (size_of bs) (variable_count bs) in
        let e2 = numbered_length (process_of bs l) (process_count bs l) in
        let e4 = numbered_length (arity_of bs l) (action_count bs l) in
        let e5 = numbered_length (node_of bs l) (node_count bs l) in
        let e6 = numbered_length (argument_of bs l) (argument_count bs l) in
        counts (variable_count bs) _ (process_count bs l) _ (action_count bs l) _ (node_count bs l) _ (argument_count bs l) _ e1 e2 e4 e5 e6

    pub written_at : file_of (flat_at bs l) ≡ bs
    written_at = sym (m.header ∙ ap headed (all_words ∙ ap bytes_of counted_is))

    -- the arguments' bytes
    pub argument_bytes_lem : (f k : ℕ) → bytes_of (take k (drop f (flat_at bs l).arguments)) ≡ take (2 * k) (drop (argument_at l f) bs)
    argument_bytes_lem f k =
        let args = numbered (argument_count bs l) (argument_of bs l) in
        let cut : drop (l.arguments + 2) bs ≡ bytes_of args = sym (drop-drop 2 l.arguments bs) ∙ ap (drop 2) sixth in
        bytes_take k (drop f args) ∙ ap (take (2 * k)) (bytes_drop f args ∙ ap (drop (2 * f)) (sym cut) ∙ drop-drop (2 * f) (l.arguments + 2) bs)

pub written : (bs : List ℕ) → ((i : ℕ) → get_or bs i 0 < 256) → WellFormed bs → file_of (flat bs) ≡ bs
written bs low m = written_at bs low (layout_of bs) (laid bs) m.limits m.sound.kinds
