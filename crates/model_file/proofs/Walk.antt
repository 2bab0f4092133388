-- The records of a section, one after another. Assumes nothing.
use Rattle.std.proofs.Common.{◌≡◌, ℕ, suc, ◌+◌, ◌-◌, ◌*◌, ◌<◌, List, Result, ap, ◌∙◌, mul-suc, add-one, arith}
use Rattle.model_file.specs.declared.fault.ModelFault.{ModelFault}
use Rattle.model_file.specs.declared.part.Part.{Part}
use Rattle.model_file.specs.Faults.{and_then}
use Rattle.model_file.specs.Sections.{width, record_fault, records_fault}

module _ (bs : List ℕ) (part : Part) (n i p : ℕ) where
  -- where record i begins, with p as the first
  abbrev at : ℕ
  at = p + width part * i

  abbrev rest : Result (Unit {0}) ModelFault
  rest = records_fault bs part (n - (i + 1)) (i + 1) (p + width part * (i + 1))

  -- record i is looked at first
  records_here : i < n → records_fault bs part (n - i) i at ≡ and_then (record_fault bs part at i) (λ _. rest)
  records_here h =
      let e : n - i ≡ suc (n - (i + 1)) = omega arith in
      let m = mul-suc (width part) i in
      let next : at + width part ≡ p + width part * (i + 1) = omega (arith, ap (λ j. width part * j) (add-one i)) in
      ap (λ k. records_fault bs part k i at) e
      ∙ ap (λ q. and_then (record_fault bs part at i) (λ _. records_fault bs part (n - (i + 1)) (i + 1) q)) next

  pub records_after : {r : Result (Unit {0}) ModelFault} → i < n → record_fault bs part at i ≡ r → records_fault bs part (n - i) i at ≡ and_then r (λ _. rest)
  records_after h e = records_here h ∙ ap (λ r. and_then r (λ _. rest)) e
