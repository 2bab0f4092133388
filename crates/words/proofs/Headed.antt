-- A header is accepted just where the file is the one with that header. Assumes nothing.
use Rattle.std.proofs.Common.{◌≡◌, ℕ, ◌+◌, ◌*◌, ◌/◌, ◌%◌, ◌<◌, List, [], ◌∷◌, length, get_or, drop, Ok, ap, arith}
use Rattle.std.proofs.lemmas.Bool.Decides.{nat_tests}
use Rattle.words.specs.Words.{Bytes}
use Rattle.words.specs.Headers.{header_of, headed, Iff}

-- four bytes are those of the number that they give
four_is : (n b c d e : ℕ) → b < 256 → c < 256 → d < 256 → e < 256 → (b * 256 + c) * 65536 + (d * 256 + e) ≡ n → (b ≡ n / 16777216) × (c ≡ n / 65536 % 256) × (d ≡ n / 256 % 256) × (e ≡ n % 256)
four_is n b c d e lb lc ld le is = (omega arith, omega arith, omega arith, omega arith)

accepted : (a b c d e : ℕ) (rest : List ℕ) → Bytes (a ∷ (b ∷ (c ∷ (d ∷ (e ∷ rest))))) → header_of (a ∷ (b ∷ (c ∷ (d ∷ (e ∷ rest))))) ≡ Ok tt → a ∷ (b ∷ (c ∷ (d ∷ (e ∷ rest)))) ≡ headed rest
accepted a b c d e rest low is =
    let v : a ≡ 1 = grind (arith, nat_tests) in
    let n : (b * 256 + c) * 65536 + (d * 256 + e) ≡ length rest = grind (arith, nat_tests) in
    let q = four_is (length rest) b c d e (low 1) (low 2) (low 3) (low 4) n in
    let qb = q.0 in
    let qc = q.1 in
    let qd = q.2 in
    let qe = q.3 in
    cc

given : (a b c d e : ℕ) (rest : List ℕ) → Bytes (a ∷ (b ∷ (c ∷ (d ∷ (e ∷ rest))))) → a ∷ (b ∷ (c ∷ (d ∷ (e ∷ rest)))) ≡ headed rest → header_of (a ∷ (b ∷ (c ∷ (d ∷ (e ∷ rest))))) ≡ Ok tt
given a b c d e rest low is =
    let n = length rest in
    let at : (i : ℕ) → get_or (a ∷ (b ∷ (c ∷ (d ∷ (e ∷ rest))))) i 0 ≡ get_or (headed rest) i 0 = λ i. ap (λ bs. get_or bs i 0) is in
    let qa : a ≡ 1 = at 0 in
    let qb : b ≡ n / 16777216 = at 1 in
    let qc : c ≡ n / 65536 % 256 = at 2 in
    let qd : d ≡ n / 256 % 256 = at 3 in
    let qe : e ≡ n % 256 = at 4 in
    let lb : b < 256 = low 1 in
    let sum : (b * 256 + c) * 65536 + (d * 256 + e) ≡ n = omega arith in
    grind (arith, nat_tests)

-- a file of less than five bytes has no header
short : (bs : List ℕ) → length bs < 5 → bs ≡ headed (drop 5 bs) → ⊥
short bs low is = let long : length bs ≡ length (headed (drop 5 bs)) = ap length is in omega arith

refused : (bs : List ℕ) → length bs < 5 → header_of bs ≡ Ok tt → ⊥
refused bs low is = grind (arith, nat_tests)

pub header_rules : (bs : List ℕ) → Bytes bs → Iff (header_of bs ≡ Ok tt) (bs ≡ headed (drop 5 bs))
header_rules [] low = (λ is. absurd (refused [] (omega arith) is), λ is. absurd (short [] (omega arith) is))
header_rules (a ∷ []) low = (λ is. absurd (refused (a ∷ []) (omega arith) is), λ is. absurd (short (a ∷ []) (omega arith) is))
header_rules (a ∷ (b ∷ [])) low = (λ is. absurd (refused (a ∷ (b ∷ [])) (omega arith) is), λ is. absurd (short (a ∷ (b ∷ [])) (omega arith) is))
header_rules (a ∷ (b ∷ (c ∷ []))) low = (λ is. absurd (refused (a ∷ (b ∷ (c ∷ []))) (omega arith) is), λ is. absurd (short (a ∷ (b ∷ (c ∷ []))) (omega arith) is))
header_rules (a ∷ (b ∷ (c ∷ (d ∷ [])))) low = (λ is. absurd (refused (a ∷ (b ∷ (c ∷ (d ∷ [])))) (omega arith) is), λ is. absurd (short (a ∷ (b ∷ (c ∷ (d ∷ [])))) (omega arith) is))
header_rules (a ∷ (b ∷ (c ∷ (d ∷ (e ∷ rest))))) low = (accepted a b c d e rest low, given a b c d e rest low)
