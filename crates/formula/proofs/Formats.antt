-- The cells of a file, written down, are its bytes. Assumes nothing.
use Rattle.std.proofs.Common.{◌≡◌, ℕ, ◌&&◌, eqb, ltb, List, [], ◌∷◌, ◌++◌, length, drop, IfSome, IfOk, Some, None, Ok, Err, Option, refl, ap, ◌∙◌, arith}
use Rattle.std.proofs.lemmas.List.{append-nil, drop_all}
use Rattle.std.proofs.lemmas.Bool.{and_parts, cond_both, eqb-true}
use Rattle.std.specs.List.{flat_map}
use Rattle.words.specs.Headers.{headed}
use Rattle.words.specs.Words.{bytes_of, Bytes}
use Rattle.language.specs.Files.{record_place, records_of}
use Rattle.language.specs.declared.fault.DataFault.TheVariants.{Length}
use Rattle.language.proofs.Runs.{made_then, Recorded, records_run}
use Rattle.formula.specs.Files.{binary, decoded, formula_file}
use Rattle.formula.specs.Formats.{operation_number, cell_words, formula_bytes}
use Rattle.formula.specs.declared.cell.Operation.{Operation}
use Rattle.formula.specs.declared.cell.Operation.TheVariants.{Sum, Difference, Product, Equal, Less}
use Rattle.formula.specs.declared.cell.Cell.{Cell}
use Rattle.formula.specs.declared.cell.Cell.TheVariants.{Constant, Variable, Binary, Choose}

-- the words of a cell that is decoded are those it was decoded from
abbrev Spells : ℕ → ℕ → ℕ → ℕ → Option Cell → Type 0
Spells op a b c o = IfSome o (λ cell. op ∷ (a ∷ (b ∷ (c ∷ []))) ≡ cell_words cell)

binary_spells : (k n a b c : ℕ) (op : Operation) → n ≡ operation_number op → Spells n a b c (binary k a b c op)
binary_spells k n a b c op is =
    cond_both (ltb a k && ltb b k && eqb c 0) (Some (Binary op a b)) None (Spells n a b c)
    (λ h. let z = eqb-true c 0 (and_parts (ltb a k && ltb b k) (eqb c 0) h).1 in rw (is, z) refl) (λ _. tt)

decoded_spells : (k op a b c : ℕ) → Spells op a b c (decoded k op a b c)
decoded_spells k op a b c =
    cond_both (eqb op 0) _ _ (Spells op a b c)
    (λ o. cond_both (eqb b 0 && eqb c 0) (Some (Constant a)) None (Spells op a b c)
    (λ h. let p = and_parts (eqb b 0) (eqb c 0) h in let x = eqb-true op 0 o in let y = eqb-true b 0 p.0 in let z = eqb-true c 0 p.1 in rw (x, y, z) refl) (λ _. tt))
    (λ _. cond_both (eqb op 1) _ _ (Spells op a b c)
    (λ o. cond_both (ltb a 16 && eqb b 0 && eqb c 0) (Some (Variable a)) None (Spells op a b c)
    (λ h. let p = and_parts (ltb a 16 && eqb b 0) (eqb c 0) h in let q = and_parts (ltb a 16) (eqb b 0) p.0 in let x = eqb-true op 1 o in let y = eqb-true b 0 q.1 in let z = eqb-true c 0 p.1 in rw (x, y, z) refl) (λ _. tt))
    (λ _. cond_both (eqb op 2) _ _ (Spells op a b c) (λ o. binary_spells k op a b c Sum (eqb-true op 2 o))
    (λ _. cond_both (eqb op 3) _ _ (Spells op a b c) (λ o. binary_spells k op a b c Difference (eqb-true op 3 o))
    (λ _. cond_both (eqb op 4) _ _ (Spells op a b c) (λ o. binary_spells k op a b c Product (eqb-true op 4 o))
    (λ _. cond_both (eqb op 5) _ _ (Spells op a b c) (λ o. binary_spells k op a b c Equal (eqb-true op 5 o))
    (λ _. cond_both (eqb op 6) _ _ (Spells op a b c) (λ o. binary_spells k op a b c Less (eqb-true op 6 o))
    (λ _. cond_both (eqb op 7) _ _ (Spells op a b c)
    (λ o. cond_both (ltb a k && ltb b k && ltb c k) (Some (Choose a b c)) None (Spells op a b c) (λ _. let x = eqb-true op 7 o in rw x refl) (λ _. tt))
    (λ _. tt))))))))

module _ (bs : List ℕ) (low : Bytes bs) where
  assembled : (cs : List Cell) → Recorded decoded bs cell_words decoded_spells low cs → length bs ≡ record_place (length cs) → bs ≡ formula_bytes cs
  assembled cs (head, body) ends =
      let ws = length cs ∷ flat_map cell_words cs in
      let last : drop (record_place (length cs)) bs ≡ [] = drop_all (record_place (length cs)) bs (omega arith) in
      head ∙ ap headed (body ∙ ap (λ r. bytes_of ws ++ r) last ∙ append-nil (bytes_of ws))

  -- the bytes of a file that is taken are those of its cells
  pub file_bytes : IfOk (formula_file bs) (λ cs. bs ≡ formula_bytes cs)
  file_bytes =
      made_then (records_of decoded bs) _ (Recorded decoded bs cell_words decoded_spells low) (λ cs. bs ≡ formula_bytes cs) (records_run decoded bs cell_words decoded_spells low) (λ cs recorded.
      cond_both (eqb (length bs) (record_place (length cs))) (Ok cs) (Err (Length 0)) (λ r. IfOk r (λ ds. bs ≡ formula_bytes ds)) (λ h. assembled cs recorded (eqb-true (length bs) (record_place (length cs)) h)) (λ _. tt))
