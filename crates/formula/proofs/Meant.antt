-- A formula's values and names are those that its rules give. Assumes nothing.
use Rattle.std.proofs.Common.{◌≡◌, ℕ, zero, suc, ◌+◌, ◌*◌, ◌<◌, ◌≤◌, Bool, true, false, cond, ◌&&◌, ◌||◌, eqb, ltb, List, length, sym, refl, ap, ◌∙◌, subst, ⊎_elim, arith}
use Rattle.std.proofs.lemmas.Bool.{and_parts, cases_eq, cases_lt, cond-true, cond-false, eq-eqb, ne_eqb, eqb-true, lt-ltb, le-ltb, ltb-true, ltb-false, eqb-false, or_cases, or_left, or_right, false≢true}
use Rattle.language.specs.Meanings.{value_at}
use Rattle.language.proofs.Largest.{word_at_most, at_most_word}
use Rattle.formula.specs.Cells.{lawful, ruled, cell_at, step_of, reads_of, applied, value_among, names_among, meaning_of}
use Rattle.formula.specs.Rules.{IsCell, Tells, Evaluates, constant, variable, sum, difference, product, equal, less, choose, Reaches, itself, first, second, test, taken, otherwise, Means}
use Rattle.formula.specs.declared.cell.Operation.{Operation}
use Rattle.formula.specs.declared.cell.Operation.TheVariants.{Sum, Difference, Product, Equal, Less}
use Rattle.formula.specs.declared.cell.Cell.{Cell}
use Rattle.formula.specs.declared.cell.Cell.TheVariants.{Constant, Variable, Binary, Choose}
use Rattle.formula.specs.Among.{lawful_at, value_is, names_is}

module _ (cs : List Cell) (whole : lawful cs ≡ true) where
  module _ (v : List ℕ) where
    abbrev val : ℕ → ℕ
    val e = value_among cs v (length cs) e

    binary_derived : (e a b : ℕ) (op : Operation) → IsCell cs e (Binary op a b) → Evaluates cs v a (val a) → Evaluates cs v b (val b) → Evaluates cs v e (applied op (val a) (val b))
    binary_derived e a b Sum is p q = sum e a b (val a) (val b) _ is p q (word_at_most (val a + val b))
    binary_derived e a b Difference is p q = difference e a b (val a) (val b) _ is p q (λ le. omega arith) (λ lt. omega arith)
    binary_derived e a b Product is p q = product e a b (val a) (val b) _ is p q (word_at_most (val a * val b))
    binary_derived e a b Equal is p q =
        equal e a b (val a) (val b) _ is p q (λ same. cond-true (eqb (val a) (val b)) 1 0 (eq-eqb (val a) (val b) same), λ other. cond-false (eqb (val a) (val b)) 1 0 (ne_eqb (val a) (val b) other))
    binary_derived e a b Less is p q =
        less e a b (val a) (val b) _ is p q (λ lt. cond-true (ltb (val a) (val b)) 1 0 (lt-ltb (val a) (val b) lt), λ ge. cond-false (ltb (val a) (val b)) 1 0 (le-ltb (val a) (val b) (omega (arith, ge))))

    cell_derived : (e : ℕ) (c : Cell) → IsCell cs e c → ruled e c ≡ true → ((a : ℕ) → a < e → Evaluates cs v a (val a)) → Evaluates cs v e (step_of c v val)
    cell_derived e (Constant a) is ok ih = constant e a _ is (word_at_most a)
    cell_derived e (Variable x) is ok ih = variable e x _ is (word_at_most (value_at v x))
    cell_derived e (Binary op a b) is ok ih =
        let p = and_parts (ltb a e) (ltb b e) ok in
        binary_derived e a b op is (ih a (ltb-true a e p.0)) (ih b (ltb-true b e p.1))
    cell_derived e (Choose a b c) is ok ih =
        let p = and_parts (ltb a e && ltb b e) (ltb c e) ok in
        let q = and_parts (ltb a e) (ltb b e) p.0 in
        choose e a b c (val a) (val b) (val c) _ is (ih a (ltb-true a e q.0)) (ih b (ltb-true b e q.1)) (ih c (ltb-true c e p.1))
        (λ other. cond-false (eqb (val a) 0) (val c) (val b) (ne_eqb (val a) 0 other))
        (λ zero. cond-true (eqb (val a) 0) (val c) (val b) (eq-eqb (val a) 0 zero))

    -- every cell below n has the value that the rules give
    derived : (n e : ℕ) → e < n → n ≤ length cs → Evaluates cs v e (val e)
    derived zero e lt le = absurd (omega arith)
    derived (suc n) e lt le =
        let within : e < length cs = omega arith in
        subst (Evaluates cs v e) (sym (value_is cs (length cs) e whole within v))
        (cell_derived e (cell_at cs e) (within, refl) (lawful_at cs (length cs) e whole within) (λ a low. derived n a (omega arith) (omega arith)))

    value_by : (e : ℕ) (c : Cell) → IsCell cs e c → val e ≡ step_of c v val
    value_by e c is = value_is cs (length cs) e whole is.0 v ∙ ap (λ d. step_of d v val) is.1

    tells_is : (Test : Type 0) (b : Bool) (n : ℕ) → (b ≡ true → Test) → (b ≡ false → Test → ⊥) → Tells Test n → cond b 1 0 ≡ n
    tells_is Test true n is isn't (one, none) = sym (one (is refl))
    tells_is Test false n is isn't (one, none) = sym (none (isn't refl))

    -- and no other
    only : {e n : ℕ} → Evaluates cs v e n → val e ≡ n
    only (constant e a n is most) = value_by e _ is ∙ at_most_word a n most
    only (variable e x n is most) = value_by e _ is ∙ at_most_word (value_at v x) n most
    only (sum e a b x y n is p q most) =
        let i : val a ≡ x = only p in
        let j : val b ≡ y = only q in
        value_by e _ is ∙ at_most_word _ n (rw (i, j) most)
    only (difference e a b x y n is p q high low) =
        let i : val a ≡ x = only p in
        let j : val b ≡ y = only q in
        value_by e _ is ∙ ⊎_elim (λ (lt : x < y). let r = low lt in omega arith) (λ (le : y ≤ x). let r = high le in omega arith) (cases_lt x y)
    only (product e a b x y n is p q most) =
        let i : val a ≡ x = only p in
        let j : val b ≡ y = only q in
        value_by e _ is ∙ at_most_word _ n (rw (i, j) most)
    only (equal e a b x y n is p q told) =
        let i : val a ≡ x = only p in
        let j : val b ≡ y = only q in
        value_by e _ is ∙ rw (i, j) (tells_is (x ≡ y) (eqb x y) n (eqb-true x y) (eqb-false x y) told)
    only (less e a b x y n is p q told) =
        let i : val a ≡ x = only p in
        let j : val b ≡ y = only q in
        value_by e _ is ∙ rw (i, j) (tells_is (x < y) (ltb x y) n (ltb-true x y) (λ ge lt. omega (arith, ltb-false x y ge)) told)
    only (choose e a b c x y z n is p q r then else) =
        let i : val a ≡ x = only p in
        let j : val b ≡ y = only q in
        let k : val c ≡ z = only r in
        value_by e _ is ∙ rw (i, j, k) (⊎_elim (λ (zero : x ≡ 0). cond-true (eqb x 0) z y (eq-eqb x 0 zero) ∙ sym (else zero)) (λ other. cond-false (eqb x 0) z y (ne_eqb x 0 other) ∙ sym (then other)) (cases_eq x 0))

  module _ (x : ℕ) where
    abbrev nm : ℕ → Bool
    nm e = names_among cs x (length cs) e

    -- a cell reaches one that is the variable
    abbrev Found : ℕ → Type 0
    Found e = (k : ℕ) × (Reaches cs e k × IsCell cs k (Variable x))

    through : (e a : ℕ) → ((k : ℕ) → Reaches cs a k → Reaches cs e k) → Found a → Found e
    through e a more (k, there) = (k, (more k there.0, there.1))

    cell_found : (e : ℕ) (c : Cell) → IsCell cs e c → ruled e c ≡ true → ((a : ℕ) → a < e → nm a ≡ true → Found a) → reads_of c x nm ≡ true → Found e
    cell_found e (Constant a) is ok ih h = absurd (false≢true h)
    cell_found e (Variable y) is ok ih h = (e, (itself e, (is.0, is.1 ∙ ap Variable (eqb-true y x h))))
    cell_found e (Binary op a b) is ok ih h =
        let p = and_parts (ltb a e) (ltb b e) ok in
        ⊎_elim
        (λ l. through e a (λ k. first e a b k op is) (ih a (ltb-true a e p.0) l))
        (λ r. through e b (λ k. second e a b k op is) (ih b (ltb-true b e p.1) r))
        (or_cases (nm a) (nm b) h)
    cell_found e (Choose a b c) is ok ih h =
        let p = and_parts (ltb a e && ltb b e) (ltb c e) ok in
        let q = and_parts (ltb a e) (ltb b e) p.0 in
        ⊎_elim
        (λ ab. ⊎_elim
        (λ l. through e a (λ k. test e a b c k is) (ih a (ltb-true a e q.0) l))
        (λ r. through e b (λ k. taken e a b c k is) (ih b (ltb-true b e q.1) r))
        (or_cases (nm a) (nm b) ab))
        (λ r. through e c (λ k. otherwise e a b c k is) (ih c (ltb-true c e p.1) r))
        (or_cases (nm a || nm b) (nm c) h)

    found : (n e : ℕ) → e < n → n ≤ length cs → nm e ≡ true → Found e
    found zero e lt le h = absurd (omega arith)
    found (suc n) e lt le h =
        let within : e < length cs = omega arith in
        cell_found e (cell_at cs e) (within, refl) (lawful_at cs (length cs) e whole within) (λ a low. found n a (omega arith) (omega arith))
        (sym (names_is cs (length cs) e whole within x) ∙ h)

    names_by : (e : ℕ) (c : Cell) → IsCell cs e c → nm e ≡ reads_of c x nm
    names_by e c is = names_is cs (length cs) e whole is.0 x ∙ ap (λ d. reads_of d x nm) is.1

    named : {e k : ℕ} → Reaches cs e k → IsCell cs k (Variable x) → nm e ≡ true
    named (itself e) var = names_by e (Variable x) var ∙ eq-eqb x x refl
    named (first e a b k op is r) var = names_by e _ is ∙ or_left (nm a) (nm b) (named r var)
    named (second e a b k op is r) var = names_by e _ is ∙ or_right (nm a) (nm b) (named r var)
    named (test e a b c k is r) var = names_by e _ is ∙ or_left (nm a || nm b) (nm c) (or_left (nm a) (nm b) (named r var))
    named (taken e a b c k is r) var = names_by e _ is ∙ or_left (nm a || nm b) (nm c) (or_right (nm a) (nm b) (named r var))
    named (otherwise e a b c k is r) var = names_by e _ is ∙ or_right (nm a || nm b) (nm c) (named r var)

  pub means : Means cs (meaning_of cs)
  means =
      record {
        count = refl;
        value = λ v e n lt. (λ is. subst (Evaluates cs v e) is (derived v (length cs) e lt (omega arith)), λ by. only v by);
        names = λ e x lt. (found x (length cs) e lt (omega arith), λ (k, there). named x there.0 there.1);
      }
