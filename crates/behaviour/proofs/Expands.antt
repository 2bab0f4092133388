-- A tree's transitions, summed, are those of its ways. Assumes nothing.
use Rattle.std.proofs.Common.{◌≡◌, ℕ, ◌+◌, Bool, true, false, cond, not, ◌&&◌, eqb, List, [], ◌∷◌, set, sym, refl, ap, ◌∙◌, subst, ap₂, arith, get_or-set_other}
use mathlib.Core.Path.{fun_ext}
use Rattle.std.specs.List.{flat_map, AllByRecursion}
use Rattle.std.proofs.ByRecursion.{All-weaker, All-map, All-append}
use Rattle.std.proofs.lemmas.Bool.{or_parts, both_ways}
use Rattle.language.specs.Meanings.{Meaning, Lawful}
use Rattle.behaviour.proofs.Once.{Scoped}
use Rattle.model.specs.Trees.{Tree, call, when, choice, sum, action, delay}
use Rattle.source.specs.Models.{Model, Term}
use Rattle.valuation.specs.Doings.{does}
use Rattle.valuation.specs.Transitions.{Transition}
use Rattle.valuation.specs.Valuations.{values_of, holds, spread, all_hold}
use Rattle.source.specs.Terms.{target, transitions}
use Rattle.behaviour.specs.Ways.{Way, ways, add_sum, add_condition}
use Rattle.source.specs.Sound.{Scope, adding, Within}
use Rattle.source.proofs.Totals.{total, total_append, total_joined, total_map, total_swap, total_all, total_cond, total_cond_out}

joined_none : {X Y : Type 0} (xs : List X) → flat_map {A = Y} (λ (x : X). []) xs ≡ []
joined_none [] = refl
joined_none (x ∷ xs) = joined_none xs

fresh_sums : (L : Meaning) (S : Scope) (t : Tree) → Scoped L S t → AllByRecursion (λ y. AllByRecursion (λ x. S x ≡ false) y.sums) (ways t)
fresh_sums L S (call n p es) s = tt
fresh_sums L S (when n e t) s = All-map (λ y. AllByRecursion (λ x. S x ≡ false) y.sums) (add_condition e) (ways t) (fresh_sums L S t s.1)
fresh_sums L S (choice n l r) s = All-append _ (ways l) (ways r) (fresh_sums L S l s.0) (fresh_sums L S r s.1)
fresh_sums L S (sum n x t) s =
    All-map (λ y. AllByRecursion (λ z. S z ≡ false) y.sums) (add_sum x) (ways t)
    (All-weaker _ _ (λ y a. (s.0, All-weaker _ _ (λ z e. (or_parts (eqb x z) (S z) e).1) y.sums a)) (ways t) (fresh_sums L (adding x S) t s.1))
fresh_sums L S (action n a es x w t) s = (tt, tt)
fresh_sums L S (delay n r t) s = (tt, tt)

module _ (L : Meaning) (law : Lawful L) (m : Model) where
  -- the transitions of one way
  abbrev pub along : Way → List ℕ → List (Transition Term)
  along y = spread m.sizes y.sums (λ τ. cond (all_hold L y.conditions τ) (does L m.sizes y.doing (target L m y.then) τ) [])

  unseen : (S : Scope) (e x d : ℕ) (ρ : List ℕ) → Within L S e → S x ≡ false → holds L e (set ρ x d) ≡ holds L e ρ
  unseen S e x d ρ w o =
      ap (λ v. not (eqb v 0)) (law.agrees e (set ρ x d) ρ (λ y k. get_or-set_other ρ x y d 0 (λ q. both_ways (S x) o (subst (λ z. S z ≡ true) q (w.1 y k)))))

  guard : {X : Type 0} (e : ℕ) (xs : List ℕ) (b : List ℕ → Bool) (k : List ℕ → List X) → AllByRecursion (λ x. (d : ℕ) (ρ : List ℕ) → holds L e (set ρ x d) ≡ holds L e ρ) xs → (ρ : List ℕ)
      → spread m.sizes xs (λ τ. cond (holds L e τ && b τ) (k τ) []) ρ ≡ cond (holds L e ρ) (spread m.sizes xs (λ τ. cond (b τ) (k τ) []) ρ) []
  guard {X} e [] b k a ρ = go (holds L e ρ)
    where
      go : (h : Bool) → cond (h && b ρ) (k ρ) [] ≡ cond h (cond (b ρ) (k ρ) []) []
      go true = refl
      go false = refl
  guard {X} e (x ∷ xs) b k a ρ =
      ap (λ (g : ℕ → List X). flat_map g (values_of m.sizes x)) (fun_ext (λ d. guard e xs b k a.1 (set ρ x d) ∙ ap (λ h. cond h (spread m.sizes xs (λ τ. cond (b τ) (k τ) []) (set ρ x d)) []) (a.0 d ρ)))
      ∙ go (holds L e ρ)
    where
      go : (h : Bool) → flat_map (λ d. cond h (spread m.sizes xs (λ τ. cond (b τ) (k τ) []) (set ρ x d)) []) (values_of m.sizes x) ≡ cond h (flat_map (λ d. spread m.sizes xs (λ τ. cond (b τ) (k τ) []) (set ρ x d)) (values_of m.sizes x)) []
      go true = refl
      go false = joined_none (values_of m.sizes x)

  module _ (f : Transition Term → ℕ) where
    pub expands : (S : Scope) (t : Tree) (ρ : List ℕ) → Scoped L S t → total f (transitions L m t ρ) ≡ total (λ y. total f (along y ρ)) (ways t)
    expands S (call n p es) ρ s = refl
    expands S (when n e t) ρ s =
        total_cond f (holds L e ρ) (transitions L m t ρ)
        ∙ ap (λ n. cond (holds L e ρ) n 0) (expands S t ρ s.1)
        ∙ sym (total_cond_out (holds L e ρ) (λ y. total f (along y ρ)) (ways t))
        ∙ total_all _ _ (ways t) (All-weaker _ _ (λ y a. sym (under y a)) (ways t) (fresh_sums L S t s.1))
        ∙ sym (total_map (λ y. total f (along y ρ)) (add_condition e) (ways t))
      where
        under : (y : Way) → AllByRecursion (λ x. S x ≡ false) y.sums → total f (along (add_condition e y) ρ) ≡ cond (holds L e ρ) (total f (along y ρ)) 0
        under y a =
            ap (total f) (guard e y.sums (all_hold L y.conditions) (does L m.sizes y.doing (target L m y.then)) (All-weaker _ _ (λ x o d τ. unseen S e x d τ s.0 o) y.sums a) ρ)
            ∙ total_cond f (holds L e ρ) (along y ρ)
    expands S (choice n l r) ρ s =
        total_append f (transitions L m l ρ) (transitions L m r ρ)
        ∙ ap₂ ◌+◌ (expands S l ρ s.0) (expands S r ρ s.1)
        ∙ sym (total_append (λ y. total f (along y ρ)) (ways l) (ways r))
    expands S (sum n x t) ρ s =
        total_joined f (λ d. transitions L m t (set ρ x d)) (values_of m.sizes x)
        ∙ ap (λ g. total g (values_of m.sizes x)) (fun_ext (λ d. expands (adding x S) t (set ρ x d) s.1))
        ∙ total_swap (λ d y. total f (along y (set ρ x d))) (values_of m.sizes x) (ways t)
        ∙ ap (λ g. total g (ways t)) (fun_ext (λ y. sym (total_joined f (λ d. along y (set ρ x d)) (values_of m.sizes x))))
        ∙ sym (total_map (λ y. total f (along y ρ)) (add_sum x) (ways t))
    expands S (action n a es x w t) ρ s = omega arith
    expands S (delay n r t) ρ s = omega arith
