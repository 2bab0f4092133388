-- A model's summary, put together from its parts. Assumes nothing.
use Rattle.std.proofs.Common.{◌≡◌, ℕ, List, ◌++◌, length, Ok, codes, sym, ap, ◌∙◌}
use Rattle.model.specs.Accept.{judged}
use Rattle.model.specs.Flat.{Flat, flat, footprint_of}
use Rattle.report.specs.Kinds.{kinds_below}
use Rattle.report.specs.Summaries.{line_text, parts_text, kinds_text, summary_text, model_told}
use Rattle.report.specs.declared.kinds.Kinds.{Kinds}

pub summed : (g : Flat) (k : Kinds) (n : ℕ) (parts kinds both all : List ℕ) → parts ≡ parts_text g → kinds ≡ kinds_text k → k ≡ kinds_below g (length g.nodes) → both ≡ parts ++ kinds → n ≡ footprint_of g → all ≡ both ++ line_text (codes "footprint") n → all ≡ summary_text g
summed g k n parts kinds both all p q is b f a =
    a ∙ ap (λ m. both ++ line_text (codes "footprint") m) f ∙ ap (λ t. t ++ line_text (codes "footprint") (footprint_of g)) (b ∙ ap (λ t. t ++ kinds) p ∙ ap (λ t. parts_text g ++ t) (q ∙ ap kinds_text is))

-- what is told of a file that was accepted into a model
pub accepted : (file draft bytes text : List ℕ) → Ok tt ≡ judged draft → draft ≡ file → bytes ≡ draft → text ≡ summary_text (flat bytes) → model_told (judged file) (flat file) ≡ Ok text
accepted file draft bytes text ok same into is =
    ap (λ r. model_told r (flat file)) (sym (ok ∙ ap judged same)) ∙ ap Ok (sym (is ∙ ap (λ b. summary_text (flat b)) (into ∙ same)))
