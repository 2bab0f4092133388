-- A cell that a file gives keeps the rules. Assumes nothing.
use Rattle.std.proofs.Common.{◌≡◌, ℕ, true, ◌&&◌, eqb, ltb, IfSome, Some, None, Option, refl}
use Rattle.std.proofs.lemmas.Bool.{and_parts, cond_both}
use Rattle.formula.specs.Cells.{ruled}
use Rattle.formula.specs.Files.{binary, decoded}
use Rattle.formula.specs.declared.cell.Operation.{Operation}
use Rattle.formula.specs.declared.cell.Cell.{Cell}
use Rattle.formula.specs.declared.cell.Cell.TheVariants.{Constant, Variable, Binary, Choose}

abbrev Ruled : ℕ → Option Cell → Type 0
Ruled k o = IfSome o (λ c. ruled k c ≡ true)

binary_ruled : (k a b c : ℕ) (op : Operation) → Ruled k (binary k a b c op)
binary_ruled k a b c op =
    cond_both (ltb a k && ltb b k && eqb c 0) (Some (Binary op a b)) None (Ruled k)
    (λ h. (and_parts (ltb a k && ltb b k) (eqb c 0) h).0) (λ _. tt)

pub decoded_ruled : (k op a b c : ℕ) → Ruled k (decoded k op a b c)
decoded_ruled k op a b c =
    cond_both (eqb op 0) _ _ (Ruled k) (λ _. cond_both (eqb b 0 && eqb c 0) (Some (Constant a)) None (Ruled k) (λ _. refl) (λ _. tt))
    (λ _. cond_both (eqb op 1) _ _ (Ruled k) (λ _. cond_both (ltb a 16 && eqb b 0 && eqb c 0) (Some (Variable a)) None (Ruled k) (λ h. (and_parts (ltb a 16) (eqb b 0) (and_parts (ltb a 16 && eqb b 0) (eqb c 0) h).0).0) (λ _. tt))
    (λ _. cond_both (eqb op 2) _ _ (Ruled k) (λ _. binary_ruled k a b c _)
    (λ _. cond_both (eqb op 3) _ _ (Ruled k) (λ _. binary_ruled k a b c _)
    (λ _. cond_both (eqb op 4) _ _ (Ruled k) (λ _. binary_ruled k a b c _)
    (λ _. cond_both (eqb op 5) _ _ (Ruled k) (λ _. binary_ruled k a b c _)
    (λ _. cond_both (eqb op 6) _ _ (Ruled k) (λ _. binary_ruled k a b c _)
    (λ _. cond_both (eqb op 7) _ _ (Ruled k) (λ _. cond_both (ltb a k && ltb b k && ltb c k) (Some (Choose a b c)) None (Ruled k) (λ h. h) (λ _. tt))
    (λ _. tt))))))))
