-- A table looks up and names what its rules say. Assumes nothing.
use Rattle.std.proofs.Common.{◌≡◌, ℕ, ◌<◌, ◌≤◌, false, ◌||◌, eqb, ltb, List, length, get_or, Ok, sym, refl, ap, ◌∙◌, subst, inl, inr, ⊎_elim}
use Rattle.std.proofs.lemmas.Bool.{cases_lt, cond-true, cond-false, eq-eqb, eqb-true, lt-ltb, le-ltb, or_cases, or_left, or_right}
use Rattle.std.proofs.lemmas.Result.{IfOk-at_ok}
use Rattle.words.specs.Words.{Bytes}
use Rattle.language.specs.Meanings.{Meaning, word}
use Rattle.language.proofs.Largest.{word_at_most, at_most_word}
use Rattle.table.specs.Files.{Contents, table_file}
use Rattle.table.specs.Formats.{table_bytes}
use Rattle.table.proofs.Formats.{file_bytes}
use Rattle.table.specs.Records.{place_of, entry_at, meaning_of}
use Rattle.table.specs.Rules.{IsRecord, LooksUp, entry, none, Means, ReadsAs}
use Rattle.table.specs.declared.record.Record.{Record}

looks_up : (es : List ℕ) (r : Record) (v : List ℕ) → LooksUp es r v (entry_at es (place_of r v))
looks_up es r v =
    let p = place_of r v in
    ⊎_elim
    (λ (lt : p < length es). subst (LooksUp es r v) (sym (cond-true (ltb p (length es)) (word (get_or es p 0)) 0 (lt-ltb p (length es) lt))) (entry p _ refl lt (word_at_most (get_or es p 0))))
    (λ (le : length es ≤ p). subst (LooksUp es r v) (sym (cond-false (ltb p (length es)) (word (get_or es p 0)) 0 (le-ltb p (length es) le))) (none le))
    (cases_lt p (length es))

only_one : {es : List ℕ} {r : Record} {v : List ℕ} {n : ℕ} → LooksUp es r v n → entry_at es (place_of r v) ≡ n
only_one {es} {r} {v} (entry p n is lt most) =
    rw (sym is) (cond-true (ltb p (length es)) (word (get_or es p 0)) 0 (lt-ltb p (length es) lt) ∙ at_most_word (get_or es p 0) n most)
only_one {es} {r} {v} (none le) = cond-false (ltb (place_of r v) (length es)) (word (get_or es (place_of r v) 0)) 0 (le-ltb (place_of r v) (length es) le)

module _ (f : Contents) where
  abbrev l : Meaning
  l = meaning_of f.records f.values

  value_by : (e : ℕ) (r : Record) → IsRecord f.records e r → (v : List ℕ) → l.value e v ≡ entry_at f.values (place_of r v)
  value_by e r is v =
      cond-true (ltb e (length f.records)) _ 0 (lt-ltb e (length f.records) is.0) ∙ ap (λ s. entry_at f.values (place_of s v)) is.1

  names_by : (e : ℕ) (r : Record) → IsRecord f.records e r → (x : ℕ) → l.names e x ≡ (eqb r.a x || eqb r.b x)
  names_by e r is x =
      cond-true (ltb e (length f.records)) _ false (lt-ltb e (length f.records) is.0) ∙ ap (λ (s : Record). eqb s.a x || eqb s.b x) is.1

  means : Means f l
  means =
      record {
        count = refl;
        value = λ e r is v n. (
          (λ at. subst (LooksUp f.values r v) (sym (value_by e r is v) ∙ at) (looks_up f.values r v)),
          (λ by. value_by e r is v ∙ only_one by),
        );
        names = λ e r is x. (
          (λ at. ⊎_elim (λ a. inl (eqb-true r.a x a)) (λ b. inr (eqb-true r.b x b)) (or_cases (eqb r.a x) (eqb r.b x) (sym (names_by e r is x) ∙ at))),
          (λ by. names_by e r is x ∙ ⊎_elim (λ a. or_left (eqb r.a x) (eqb r.b x) (eq-eqb r.a x a)) (λ b. or_right (eqb r.a x) (eqb r.b x) (eq-eqb r.b x b)) by),
        );
      }

pub read_as : (bs : List ℕ) (f : Contents) → Bytes bs → table_file bs ≡ Ok f → ReadsAs bs (meaning_of f.records f.values)
read_as bs f low file =
    (f, record { file = file; bytes = IfOk-at_ok (λ g. bs ≡ table_bytes g) file (file_bytes bs low); means = means f })
