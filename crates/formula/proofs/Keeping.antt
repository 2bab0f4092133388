-- A memo with one answer more, and an empty one. Assumes nothing.
use Rattle.std.proofs.Common.{◌≡◌, ℕ, ◌<◌, ◌≤◌, List, length, get_or, set, replicate, Some, None, Option, sym, ◌∙◌, ⊎_elim, arith, get_or-set_other, get_or-set_same}
use lib.ListN.{length-replicate, get_or-replicate}
use Rattle.std.proofs.lemmas.Bool.{cases_eq, cases_lt}
use Rattle.std.proofs.lemmas.List.{get_or_default, get_or_past}
use Rattle.formula.specs.Answers.{Kept}

-- an answer that is found under a number, wherever the default comes from
pub kept_at : {X : Type 0} (f : ℕ → X) (m : List (Option X)) (e k : ℕ) (d : Option X) (x : X) → k ≡ e → e < length m → Kept f m → get_or m k d ≡ Some x → x ≡ f e
kept_at f m e k d x same lt kept there = kept e x (get_or_default m e None d lt ∙ rw same at there)

pub kept_more : {X : Type 0} (f : ℕ → X) (m : List (Option X)) (e : ℕ) (x : X) → e < length m → Kept f m → x ≡ f e → Kept f (set m e (Some x))
kept_more f m e x lt kept is k y there =
    ⊎_elim
    (λ (same : k ≡ e).
    let here = get_or-set_same m e (Some x) None lt in
    let found : get_or (set m e (Some x)) e None ≡ Some y = rw same at there in
    let at-e : x ≡ f e = is in
    cc)
    (λ other. kept k y (sym (get_or-set_other m e k (Some x) None other) ∙ there))
    (cases_eq k e)

none_at : {X : Type 0} (n k : ℕ) → get_or {A = Option X} (replicate n None) k None ≡ None
none_at n k =
    ⊎_elim
    (λ (low : k < n). get_or-replicate n k None None low)
    (λ (high : n ≤ k). get_or_past (replicate n None) k None (rw length-replicate high))
    (cases_lt k n)

pub kept_none : {X : Type 0} (f : ℕ → X) (n : ℕ) → Kept f (replicate n None)
kept_none {X} f n k x there =
    let z = none_at {X = X} n k in
    let bad : ◌≡◌ {A = ℕ} 0 1 = cc in
    absurd (omega arith)
