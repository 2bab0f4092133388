-- A table is a lawful data language. Assumes nothing.
use Rattle.std.specs.Prelude.{◌≡◌, ℕ, ◌<◌, ◌≤◌, Bool, true, false, cond, ◌||◌, List, length, ◌==◌, nat_lt, slice_index, refl}
use Rattle.std.proofs.Common.{ap, arith}
use Rattle.std.proofs.lemmas.Bool.{or_left, or_right, eq-eqb, cond_both, cond-false, le-ltb}
use Rattle.std.proofs.lemmas.Bool.Decides.{nat_tests}
use Rattle.language.specs.Meanings.{Agree, Lawful, value_at, word}
use Rattle.language.proofs.Rows.{every_at}
use Rattle.table.specs.Records.{ruled, lawful, record_at, place_of, entry_at, meaning_of}
use Rattle.table.specs.declared.record.Record.{Record}

lawful_at : (rs : List Record) (e : ℕ) → lawful rs ≡ true → e < length rs → ruled (record_at rs e) ≡ true
lawful_at rs e = every_at (λ k. ruled (record_at rs k)) (length rs) e

entry_small : (es : List ℕ) (p : ℕ) → entry_at es p ≤ 65535
entry_small es p = cond_both (nat_lt p (length es)) (word (slice_index es p)) 0 (λ x. x ≤ 65535) (λ _. omega arith) (λ _. omega arith)

place_agrees : (r : Record) (v w : List ℕ) → Agree (λ x. (r.a == x) || r.b == x) v w → place_of r v ≡ place_of r w
place_agrees r v w h =
    let a : value_at v r.a ≡ value_at w r.a = h r.a (or_left (r.a == r.a) (r.b == r.a) (eq-eqb r.a r.a refl)) in
    let b : value_at v r.b ≡ value_at w r.b = h r.b (or_right (r.a == r.b) (r.b == r.b) (eq-eqb r.b r.b refl)) in
    cc

within_agrees : (t : Bool) (x y : ℕ) (named : ℕ → Bool) (v w : List ℕ) → (Agree named v w → x ≡ y) → Agree (λ z. cond t (named z) false) v w → cond t x 0 ≡ cond t y 0
within_agrees true x y named v w same h = same h
within_agrees false x y named v w same h = refl

pub lawful_language : (rs : List Record) (es : List ℕ) → length rs ≤ 256 → lawful rs ≡ true → Lawful (meaning_of rs es)
lawful_language rs es few ok =
    let n = length rs in
    record {
      few = few;
      small = λ e v. cond_both (nat_lt e n) _ 0 (λ x. x ≤ 65535) (λ _. entry_small es (place_of (record_at rs e) v)) (λ _. omega arith);
      named = λ e x h. grind (arith, nat_tests, lawful_at rs e ok);
      beyond = λ e v le. cond-false (nat_lt e n) _ 0 (le-ltb e n le);
      nameless = λ e x le. cond-false (nat_lt e n) _ false (le-ltb e n le);
      agrees = λ e v w h. within_agrees (nat_lt e n) _ _ (λ x. ((record_at rs e).a == x) || (record_at rs e).b == x) v w (λ same. ap (entry_at es) (place_agrees (record_at rs e) v w same)) h;
    }
