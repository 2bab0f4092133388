-- A file is accepted just where it is well formed. Assumes that each byte is below 256.
use Rattle.std.proofs.Common.{◌≡◌, ℕ, ◌<◌, true, List, get_or, is_ok, Ok, Err, Result, refl, ap, ◌∙◌}
use Rattle.std.proofs.lemmas.Bool.{false≢true}
use Rattle.words.specs.Headers.{header_of, Iff}
use Rattle.words.specs.declared.header.HeaderFault.{HeaderFault}
use Rattle.words.proofs.Headed.{header_rules}
use Rattle.model_file.specs.declared.fault.ModelFault.{ModelFault}
use Rattle.model_file.specs.Faults.{and_then, or_fault}
use Rattle.model_file.specs.Layouts.{layout_of}
use Rattle.model_file.specs.Limits.{InLimits}
use Rattle.model_file.specs.Sections.{sections_fault, sectioned}
use Rattle.model_file.proofs.Kept.{and_then_ok}
use Rattle.model_file.proofs.Tested.{sections_kept}
use Rattle.model_rules.specs.Rules.{ruled}
use Rattle.model_rules.specs.Sound.{Sound}
use Rattle.model_rules.proofs.Ruled.{rules_are}
use Rattle.model.specs.Accept.{judged}
use Rattle.model.specs.File.{file_of}
use Rattle.model.specs.Flat.{flat}
use Rattle.model.specs.Made.{Made}
use Rattle.model.specs.WellFormed.{WellFormed}
use Rattle.model.proofs.Made.{made}
use Rattle.model.proofs.Written.{written}

-- what the clauses of a judgement say together
pub record Judged (bs : List ℕ) (r : Result (Unit {0}) ModelFault) : Type 0 where
  pub answer : r ≡ judged bs
  pub rules : Iff (r ≡ Ok tt) (WellFormed bs)
  pub whole : r ≡ Ok tt → file_of (flat bs) ≡ bs
  pub lists : r ≡ Ok tt → Made (flat bs)

module _ (bs : List ℕ) (low : (i : ℕ) → get_or bs i 0 < 256) where
  pub judgement : (r : Result (Unit {0}) ModelFault) → Ok tt ≡ sectioned bs → InLimits bs → r ≡ ruled bs → (InLimits bs → Iff (r ≡ Ok tt) (Sound bs)) → Judged bs r
  judgement r cut limits is rules =
      let well : r ≡ Ok tt → WellFormed bs = λ ok. record { limits = limits; sound = (rules limits).0 ok } in
      record { answer = is ∙ ap (λ q. and_then q (λ _. ruled bs)) cut; rules = (well, λ m. (rules m.limits).1 m.sound); whole = λ ok. written bs low (well ok); lists = λ ok. made bs (well ok) }

  or_ok : (h : Result (Unit {0}) HeaderFault) → (x : Unit {0}) → or_fault h ≡ Ok x → h ≡ Ok tt
  or_ok (Ok x) y e = refl
  or_ok (Err f) y e = absurd (false≢true (ap is_ok e))

  ok_is : (r : Result (Unit {0}) ModelFault) → is_ok r ≡ true → r ≡ Ok tt
  ok_is (Ok x) h = refl
  ok_is (Err e) h = absurd (false≢true h)

  -- what the type of a model says
  pub lawful_well : is_ok (judged bs) ≡ true → WellFormed bs
  lawful_well h =
      let q = and_then_ok (sectioned bs) (λ _. ruled bs) (ok_is (judged bs) h) in
      let p = and_then_ok (or_fault (header_of bs)) (λ _. sections_fault bs (layout_of bs)) q.1 in
      let head = (header_rules bs low).0 (or_ok (header_of bs) p.0 p.1) in
      let limits = sections_kept bs (layout_of bs) head p.2 in
      record { limits = limits; sound = (rules_are bs limits).0 q.2 }
