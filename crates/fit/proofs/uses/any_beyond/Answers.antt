use Rattle.std.proofs.Common.{rules, tests, ◌≡◌, ℕ, List, Bool, length, ap, ◌∙◌, ◌/◌, nat_le}
use Rattle.std.proofs.lemmas.Iterator.{YieldsList-from_slice}
use Rattle.std.proofs.lemmas.Iterator.Search.{any_from_yields_List}
use Rattle.std.specs.List.{list_any}
use Rattle.std.specs.Simd.{first_chunks}
use Rattle.source.proofs.Chunks.{chunk_word, any_word}
use Rattle.fit.proofs.uses.any_beyond.Goals as goal

pub returns : goal.returns
returns c =
    let beyond : ℕ → Bool = nat_le c.args.count in
    let of_chunk : List ℕ → Bool = λ chunk. beyond (chunk_word chunk) in
    let bytes = c.args.arguments.now in
    let chunks = c.as_chunks.result.0.now in
    let all : chunks ≡ first_chunks 2 (length bytes / 2) bytes = c.as_chunks.ensures.front in
    let found : c.any.result ≡ list_any of_chunk chunks = any_from_yields_List of_chunk _ _ _ c.any.ensures.ran (YieldsList-from_slice chunks c.iter.ensures.rest) (λ x b q k. search (rules, tests)) in
    record { answer = found ∙ ap (list_any of_chunk) all ∙ any_word beyond bytes }
