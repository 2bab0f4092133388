-- The parts of a file, from the parts that they are read as. Assumes nothing.
use Rattle.std.proofs.Common.{◌≡◌, ℕ, Ok, Err, List, Result, sym, refl, ap, ◌∙◌, subst, arith}
use Rattle.std.specs.Prelude.{MatchResult}
use Rattle.words.specs.Words.{Bytes}
use Rattle.words.specs.Headers.{Iff}
use Rattle.linear.specs.Equations.{Linear}
use Rattle.linear.specs.Laws.{IsFile}
use Rattle.linear.specs.Reading.{table_in, named_in, products_in, linear_file, answer_of}
use Rattle.linear.specs.declared.fault.LinearFault.{LinearFault}
use Rattle.linear.proofs.Wholes.{read_whole}
use Rattle.linear.proofs.Printed.{written_reads}
use Rattle.linear.proofs.Steps.{then_ok}

-- the exit of a `?`
pub match_err : {X : Type 0} (P : X → Type 0) (Q : LinearFault → Type 0) {r : Result X LinearFault} {x y : LinearFault} → r ≡ Err y → y ≡ x → Q x → MatchResult r P Q
match_err {X} P Q is same h =
    let R : Result X LinearFault → Type 0 = λ q. MatchResult q P Q in
    subst R (sym is) (subst Q (sym same) h)

pub equation_read : (bs : List ℕ) (e : Linear) → Ok e ≡ table_in bs → Ok tt ≡ named_in e → Ok tt ≡ products_in e → linear_file bs ≡ Ok e
equation_read bs e t n p = sym (then_ok _ t (then_ok _ n (then_ok _ p refl)))

-- an answer is Ok just where the bytes are the file of a lawful equation
ok_some : {X : Type 0} (r : Result X LinearFault) → answer_of r ≡ Ok tt → (x : X) × (r ≡ Ok x)
ok_some (Ok x) h = (x, refl)
ok_some (Err x) h = let z : ◌≡◌ {A = ℕ} 0 1 = cc in absurd (omega arith)

pub read_rules : (bs : List ℕ) → Bytes bs → (r : Result (Unit {0}) LinearFault) → r ≡ answer_of (linear_file bs) → Iff (r ≡ Ok tt) (IsFile bs)
read_rules bs low r is = (
  λ ok. let s = ok_some (linear_file bs) (sym is ∙ ok) in let w = read_whole bs low s.0 s.1 in (s.0, w),
  λ f. let P : List ℕ → Type 0 = λ b. linear_file b ≡ Ok f.0 in let B : List ℕ → Type 0 = λ b. Bytes b in let back = subst P (sym f.1.1) (written_reads f.0 (subst B f.1.1 low) f.1.0) in is ∙ ap answer_of back,
)
