-- A cell's value and names by those of its operands, among the first n cells. Assumes nothing.
use Rattle.std.specs.Prelude.{◌≡◌, ℕ, zero, suc, ◌<◌, ◌≤◌, Bool, true, false, cond, ◌&&◌, List, take, ◌==◌, nat_lt, refl}
use Rattle.std.proofs.Common.{sym, ap, ◌∙◌, ⊎_elim, arith}
use Rattle.std.proofs.Math.Path.{fun_ext}
use Rattle.std.proofs.lemmas.List.{get_or-take}
use Rattle.std.proofs.lemmas.Bool.{and_parts, cases_eq, cond-true, cond-false, eq-eqb, ne_eqb, ltb-true}
use Rattle.language.proofs.Rows.{every_at, every_same}
use Rattle.formula.specs.Cells.{lawful_among, ruled, cell_at, step_of, reads_of, value_among, names_among, meaning_among}
use Rattle.formula.specs.declared.cell.Cell.{Cell}
use Rattle.formula.specs.declared.cell.Cell.TheVariants.{Constant, Variable, Binary, Choose}

pub lawful_at : (cs : List Cell) (n e : ℕ) → lawful_among cs n ≡ true → e < n → ruled e (cell_at cs e) ≡ true
lawful_at cs n e = every_at (λ k. ruled k (cell_at cs k)) n e

-- A table that is filled from 0 up, each entry by those before it.
module _ {X : Type 0} (f : ℕ → ℕ → X) (F : ℕ → (ℕ → X) → X) (more : (n e : ℕ) → f (suc n) e ≡ cond (e == n) (F n (f n)) (f n e)) where
  filled : (n e : ℕ) → e < n → f n e ≡ F e (f e)
  filled zero e lt = absurd (omega arith)
  filled (suc n) e lt =
      more n e ∙ ⊎_elim
      (λ (same : e ≡ n). cond-true (e == n) (F n (f n)) (f n e) (eq-eqb e n same) ∙ rw same refl)
      (λ other. cond-false (e == n) (F n (f n)) (f n e) (ne_eqb e n other) ∙ filled n e (omega arith))
      (cases_eq e n)

  filled_lower : (n e a : ℕ) → a < e → e < n → f e a ≡ f n a
  filled_lower n e a lt below = filled e a lt ∙ sym (filled n a (omega arith))

  unfilled : (z : X) → ((e : ℕ) → f 0 e ≡ z) → (n e : ℕ) → n ≤ e → f n e ≡ z
  unfilled z none zero e le = none e
  unfilled z none (suc n) e le =
      more n e ∙ cond-false (e == n) (F n (f n)) (f n e) (ne_eqb e n (λ same. omega arith)) ∙ unfilled z none n e (omega arith)

  -- two tables that are filled alike are alike
  filled_alike : (g : ℕ → ℕ → X) (G : ℕ → (ℕ → X) → X) → ((n e : ℕ) → g (suc n) e ≡ cond (e == n) (G n (g n)) (g n e)) → f 0 ≡ g 0 → (m : ℕ) → ((k : ℕ) → k < m → F k ≡ G k) → (n : ℕ) → n ≤ m → f n ≡ g n
  filled_alike g G more' none m alike zero le = none
  filled_alike g G more' none m alike (suc n) le =
      let before : f n ≡ g n = filled_alike g G more' none m alike n (omega arith) in
      let here : F n ≡ G n = alike n (omega arith) in
      fun_ext (λ e. let p = more n e in let q = more' n e in cc)

-- two functions agree on a cell's operands
abbrev SameAt : {X : Type 0} → Cell → (ℕ → X) → (ℕ → X) → Type 0
SameAt (Constant a) f g = Unit {0}
SameAt (Variable x) f g = Unit {0}
SameAt (Binary op a b) f g = (f a ≡ g a) × (f b ≡ g b)
SameAt (Choose a b c) f g = (f a ≡ g a) × (f b ≡ g b) × (f c ≡ g c)

same_at : {X : Type 0} (k : ℕ) (c : Cell) (f g : ℕ → X) → ruled k c ≡ true → ((a : ℕ) → a < k → f a ≡ g a) → SameAt c f g
same_at k (Constant a) f g h same = tt
same_at k (Variable x) f g h same = tt
same_at k (Binary op a b) f g h same =
    let p = and_parts (nat_lt a k) (nat_lt b k) h in
    (same a (ltb-true a k p.0), same b (ltb-true b k p.1))
same_at k (Choose a b c) f g h same =
    let p = and_parts (nat_lt a k && nat_lt b k) (nat_lt c k) h in
    let q = and_parts (nat_lt a k) (nat_lt b k) p.0 in
    (same a (ltb-true a k q.0), same b (ltb-true b k q.1), same c (ltb-true c k p.1))

step_same : (c : Cell) (v : List ℕ) (f g : ℕ → ℕ) → SameAt c f g → step_of c v f ≡ step_of c v g
step_same (Constant a) v f g s = refl
step_same (Variable x) v f g s = refl
step_same (Binary op a b) v f g s = let x = s.0 in let y = s.1 in cc
step_same (Choose a b c) v f g s = let x = s.0 in let y = s.1 in let z = s.2 in cc

reads_same : (c : Cell) (x : ℕ) (f g : ℕ → Bool) → SameAt c f g → reads_of c x f ≡ reads_of c x g
reads_same (Constant a) x f g s = refl
reads_same (Variable y) x f g s = refl
reads_same (Binary op a b) x f g s = let p = s.0 in let q = s.1 in cc
reads_same (Choose a b c) x f g s = let p = s.0 in let q = s.1 in let r = s.2 in cc

pub value_is : (cs : List Cell) (n e : ℕ) → lawful_among cs n ≡ true → e < n → (v : List ℕ) → value_among cs v n e ≡ step_of (cell_at cs e) v (value_among cs v n)
value_is cs n e h lt v =
    let by : ℕ → (ℕ → ℕ) → ℕ = λ k. step_of (cell_at cs k) v in
    filled (value_among cs v) by (λ _ _. refl) n e lt
    ∙ step_same (cell_at cs e) v _ _ (same_at e (cell_at cs e) _ _ (lawful_at cs n e h lt) (λ a low. filled_lower (value_among cs v) by (λ _ _. refl) n e a low lt))

pub names_is : (cs : List Cell) (n e : ℕ) → lawful_among cs n ≡ true → e < n → (x : ℕ) → names_among cs x n e ≡ reads_of (cell_at cs e) x (names_among cs x n)
names_is cs n e h lt x =
    let by : ℕ → (ℕ → Bool) → Bool = λ k. reads_of (cell_at cs k) x in
    filled (names_among cs x) by (λ _ _. refl) n e lt
    ∙ reads_same (cell_at cs e) x _ _ (same_at e (cell_at cs e) _ _ (lawful_at cs n e h lt) (λ a low. filled_lower (names_among cs x) by (λ _ _. refl) n e a low lt))

pub value_beyond : (cs : List Cell) (v : List ℕ) (n e : ℕ) → n ≤ e → value_among cs v n e ≡ 0
value_beyond cs v = unfilled (value_among cs v) (λ k. step_of (cell_at cs k) v) (λ _ _. refl) 0 (λ _. refl)

pub names_beyond : (cs : List Cell) (x : ℕ) (n e : ℕ) → n ≤ e → names_among cs x n e ≡ false
names_beyond cs x = unfilled (names_among cs x) (λ k. reads_of (cell_at cs k) x) (λ _ _. refl) false (λ _. refl)

-- cells past the first n change nothing of those before them
cell_front : (cs : List Cell) (m k : ℕ) → k < m → cell_at (take m cs) k ≡ cell_at cs k
cell_front cs m k lt = get_or-take m cs k (Constant 0) lt

pub lawful_front : (cs : List Cell) (n : ℕ) → lawful_among (take n cs) n ≡ lawful_among cs n
lawful_front cs n = every_same _ _ n (λ k lt. ap (ruled k) (cell_front cs n k lt))

pub meaning_front : (cs : List Cell) (n : ℕ) → meaning_among (take n cs) n ≡ meaning_among cs n
meaning_front cs n =
    let value : (v : List ℕ) → value_among (take n cs) v n ≡ value_among cs v n = λ v.
    filled_alike (value_among (take n cs) v) (λ k. step_of (cell_at (take n cs) k) v) (λ _ _. refl) (value_among cs v) (λ k. step_of (cell_at cs k) v) (λ _ _. refl) refl n
    (λ k lt. ap (λ c. step_of c v) (cell_front cs n k lt)) n (omega arith) in
    let names : (x : ℕ) → names_among (take n cs) x n ≡ names_among cs x n = λ x.
    filled_alike (names_among (take n cs) x) (λ k. reads_of (cell_at (take n cs) k) x) (λ _ _. refl) (names_among cs x) (λ k. reads_of (cell_at cs k) x) (λ _ _. refl) refl n
    (λ k lt. ap (λ c. reads_of c x) (cell_front cs n k lt)) n (omega arith) in
    let values : (λ (e : ℕ) (v : List ℕ). value_among (take n cs) v n e) ≡ (λ (e : ℕ) (v : List ℕ). value_among cs v n e) = fun_ext (λ e. fun_ext (λ v. ap (λ f. f e) (value v))) in
    let named : (λ (e x : ℕ). names_among (take n cs) x n e) ≡ (λ (e x : ℕ). names_among cs x n e) = fun_ext (λ e. fun_ext (λ x. ap (λ f. f e) (names x))) in
    ap (λ f. record { count = n; value = f; names = λ e x. names_among (take n cs) x n e }) values
    ∙ ap (λ g. record { count = n; value = λ e v. value_among cs v n e; names = g }) named
