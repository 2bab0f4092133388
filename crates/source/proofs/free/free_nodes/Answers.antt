use Rattle.std.proofs.Common.{◌≡◌, ℕ, not, ◌&&◌, sym, refl, ◌∙◌, ap₂}
use Rattle.language.specs.Meanings.{nothing}
use Rattle.model.specs.Flat.{flat}
use Rattle.model.specs.Trees.{tree_of}
use Rattle.source.specs.Free.{named, bound, free}
use Rattle.source.specs.Nodes.{own_names, own_binds}
use Rattle.source.specs.Sets.{has}
use Rattle.source.proofs.Below.{named_at, bound_at}
use Rattle.source.proofs.Above.{found}
use Rattle.source.proofs.Flats.{all_rise}
use Rattle.source.proofs.FreeIs.{free_means}
use Rattle.source.proofs.free.free_nodes.Goals as goal

pub returns : goal.returns
returns g c =
    let bs = c.args.model.now.bytes.now in
    let G = flat bs in
    let rising = all_rise bs c.args.model.now.lawful in
    let L = g.L.Language.meaning c.args.language.now in
    let x = c.args.variable in
    let names = found (λ v. own_names L v x) G rising c.carriers-named.result (λ t. named L t x) refl (named_at L G x rising) c.carriers-named.ensures.within c.carriers-named.ensures.beyond in
    let binds = found (λ v. own_binds v x) G rising c.carriers-bound.result (λ t. bound t x) refl (bound_at nothing G x rising) c.carriers-bound.ensures.within c.carriers-bound.ensures.beyond in
    let is : (n : ℕ) → has c.without.result n ≡ free L (tree_of G n) x = λ n. c.without.ensures.answer n ∙ ap₂ (λ a b. a && not b) (names n) (binds n) in
    record {
      answer = is;
      rules = λ n. ((λ h. (free_means L (tree_of G n) x).0 (sym (is n) ∙ h)), (λ h. is n ∙ (free_means L (tree_of G n) x).1 h));
    }
