-- Entries that stand one after another in a list of bytes. Assumes nothing.
use Rattle.std.proofs.Common.{◌≡◌, ℕ, zero, suc, ◌+◌, ◌*◌, ◌<◌, List, [], ◌∷◌, ◌++◌, Some, None, Option, sym, refl, ap, ◌∙◌, ⊎_elim, add-one, arith}
use Rattle.std.proofs.lemmas.Bool.{cases_eq}
use Rattle.words.specs.Words.{word_at}
use Rattle.linear.specs.Reading.{entry_of, also, entries_from}
use Rattle.linear.specs.declared.entry.Entry.{Entry}

-- the entry by the two words at p
abbrev pub entry_at : List ℕ → ℕ → Option Entry
entry_at bs p = entry_of (word_at bs p) (word_at bs (p + 2))

abbrev last : Option (List Entry) → Option Entry → Option (List Entry)
last None e = None
last (Some es) None = None
last (Some es) (Some e) = Some (es ++ (e ∷ []))

also_last : (a : Option Entry) (m : Option (List Entry)) (e : Option Entry) → also a (last m e) ≡ last (also a m) e
also_last None m e = refl
also_last (Some a) None e = refl
also_last (Some a) (Some es) None = refl
also_last (Some a) (Some es) (Some e) = refl

one_is : (e : Option Entry) → also e (Some []) ≡ last (Some []) e
one_is None = refl
one_is (Some e) = refl

entries_end : (bs : List ℕ) (p n : ℕ) → entries_from bs p (suc n) ≡ last (entries_from bs p n) (entry_at bs (p + 4 * n))
entries_end bs p zero = let e : p ≡ p + 4 * 0 = omega arith in one_is (entry_at bs p) ∙ ap (λ q. last (Some []) (entry_at bs q)) e
entries_end bs p (suc n) =
    let e : p + 4 + 4 * n ≡ p + 4 * suc n = omega arith in
    ap (also (entry_at bs p)) (entries_end bs (p + 4) n ∙ ap (λ q. last (entries_from bs (p + 4) n) (entry_at bs q)) e)
    ∙ also_last (entry_at bs p) (entries_from bs (p + 4) n) (entry_at bs (p + 4 * suc n))

-- one entry more at the end
pub entries_more : (bs : List ℕ) (p n : ℕ) (es : List Entry) (e : Entry) → entries_from bs p n ≡ Some es → entry_at bs (p + 4 * n) ≡ Some e → entries_from bs p (n + 1) ≡ Some (es ++ (e ∷ []))
entries_more bs p n es e before here =
    let more = entries_end bs p n in
    rw add-one (more ∙ ap (λ m. last m (entry_at bs (p + 4 * n))) before ∙ ap (last (Some es)) here)

last_none : (m : Option (List Entry)) → last m None ≡ None
last_none None = refl
last_none (Some es) = refl

-- where one of them is none
pub entries_none : (bs : List ℕ) (p n i : ℕ) → i < n → entry_at bs (p + 4 * i) ≡ None → entries_from bs p n ≡ None
entries_none bs p zero i lt is = absurd (omega arith)
entries_none bs p (suc n) i lt is =
    entries_end bs p n
    ∙ ⊎_elim
    (λ (same : i ≡ n). ap (λ k. last (entries_from bs p n) (entry_at bs (p + 4 * k))) (sym same) ∙ ap (last (entries_from bs p n)) is ∙ last_none (entries_from bs p n))
    (λ other. ap (λ m. last m (entry_at bs (p + 4 * n))) (entries_none bs p n i (omega arith) is))
    (cases_eq i n)
