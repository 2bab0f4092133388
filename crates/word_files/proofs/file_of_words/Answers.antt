use Rattle.std.proofs.Common.{◌≡◌, ◌<◌, ◌++◌, ◌∷◌, ◌%◌, ◌*◌, [], length, take, ap, ◌∙◌, arith}
use Rattle.std.proofs.lemmas.List.{take_all}
use Rattle.words.specs.Words.{bytes_of}
use Rattle.word_files.proofs.Grows.{word_more, whole}
use Rattle.word_files.proofs.file_of_words.Goals as goal

pub loop-word-preserved : goal.loop-word-preserved
loop-word-preserved c =
    word_more c.extend_from_slice.new.self.items c.args.words.now _ _ c.loop-word.word-index (omega arith) (omega (arith, c.type_inv.words c.loop-word.word-index))
    c.loop-word.invariant (c.in_ok-extend_from_slice-2.ensures.items ∙ ap (λ bs. c.loop-word.bytes.items ++ bs) c.to_be_bytes-in-loop-word.ensures)

pub returns : goal.returns
returns c = record {
  answer = λ low. whole c.args.words.now (length c.args.words.now % 2147483648 * 2) c.extend_from_slice.new.self.items c.loop-word.bytes.items c.loop-word.word-index low (omega arith)
      (c.in_ok-extend_from_slice.ensures.items
      ∙ ap (λ bs. bs ++ c.to_be_bytes.result) (c.in_ok-push.ensures.items ∙ ap (λ bs. bs ++ (1 ∷ [])) c.new-bytes.ensures.items)
      ∙ ap (λ bs. (1 ∷ []) ++ bs) c.to_be_bytes.ensures)
      (omega arith) c.loop-word.invariant;
}
