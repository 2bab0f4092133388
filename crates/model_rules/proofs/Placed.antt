-- A node is placed once just where the tally says so. Assumes nothing.
use Rattle.std.proofs.Common.{◌≡◌, ℕ, ◌+◌, ◌<◌, true, List, Some, None, Option, sym, refl, ap, ◌∙◌, subst, ⊎_elim, arith}
use Rattle.std.proofs.lemmas.Bool.{cases_eq, eqb-true, eq-eqb}
use Rattle.model_file.specs.declared.layout.Layout.{Layout}
use Rattle.model_file.specs.Fields.{process_count, body_of, node_count}
use Rattle.model_rules.specs.Shapes.{Shape, shape_at, children_of}
use Rattle.model_rules.specs.Sound.{Once, Place, body, child, Stands}
use Rattle.model_rules.specs.Tallies.{occurs, children, body_share, child_share, total, node_once}
use Rattle.model_rules.proofs.Counts.{one_given, one_other, one_is, total_zero, total_none, Single, total_one, total_single, At, occurs_zero, occurs_none, occurs_one, occurs_single}
use Rattle.model_rules.proofs.Decoded.{is_node, shape_is}

body_same : {i j : ℕ} → body i ≡ body j → i ≡ j
body_same e = cc

child_same : {m k m' k' : ℕ} → child m k ≡ child m' k' → k ≡ k'
child_same e = cc

child_node : {m k m' k' : ℕ} → child m k ≡ child m' k' → m ≡ m'
child_node e = cc

apart : {i m k : ℕ} → child m k ≡ body i → ⊥
apart e = cc

some_same : {s t : Shape} {o : Option Shape} → o ≡ Some s → o ≡ Some t → t ≡ s
some_same p q = cc

-- a node with children is there
shape_there : (n : ℕ) (o : Option Shape) → children n o ≡ 1 → (s : Shape) × (o ≡ Some s)
shape_there n None h = absurd (omega arith)
shape_there n (Some s) h = (s, refl)

module _ (bs : List ℕ) (l : Layout) (n : ℕ) where
  abbrev bodies : ℕ → ℕ
  bodies = body_share bs l n

  abbrev kids : ℕ → ℕ
  kids = child_share bs l n

  kids_at_lem : (m : ℕ) (s : Shape) → shape_at bs l m ≡ Some s → kids m ≡ occurs n (children_of s)
  kids_at_lem m s e = ap (children n) e

  -- no node has n as a child, and no process as its body
  no_child : (m k : ℕ) → kids m ≡ 0 → Stands bs l n (child m k) → ⊥
  no_child m k h (s, is, low, at) = occurs_zero n (children_of s) (sym (kids_at_lem m s (shape_is bs l m s is)) ∙ h) k (low, at)

  no_body : (i : ℕ) → bodies i ≡ 0 → Stands bs l n (body i) → ⊥
  no_body i h (low, at) = let e = one_given (body_of bs l i) n at in omega arith

  only_body : (q : Single bodies (process_count bs l) 0) → total kids (node_count bs l) 0 ≡ 0 → (x : Place) → Stands bs l n x → x ≡ body q.at
  only_body q none (body i) st =
      ⊎_elim (λ (e : i ≡ q.at). ap body e)
      (λ (ne : i ≡ q.at → ⊥). absurd (no_body i (q.others i (omega arith) (omega (arith, st.0)) ne) st)) (cases_eq i q.at)
  only_body q none (child m k) st = absurd (no_child m k (total_zero kids (node_count bs l) 0 none m (omega arith) (omega (arith, st.1.0))) st)

  body_once : Single bodies (process_count bs l) 0 → total kids (node_count bs l) 0 ≡ 0 → Once (Stands bs l n)
  body_once q none =
      (body q.at, (omega (arith, q.high), one_is (body_of bs l q.at) n (omega (arith, q.one))), only_body q none)

  only_child : (q : Single kids (node_count bs l) 0) (s : Shape) → shape_at bs l q.at ≡ Some s → (k : ℕ) → ((j : ℕ) → At (children_of s) n j → j ≡ k) → total bodies (process_count bs l) 0 ≡ 0
      → (x : Place) → Stands bs l n x → x ≡ child q.at k
  only_child q s e k same none (body i) st = absurd (no_body i (total_zero bodies (process_count bs l) 0 none i (omega arith) (omega (arith, st.0))) st)
  only_child q s e k same none (child m j) st =
      ⊎_elim (λ (here : m ≡ q.at).
      let t = st.0 in
      let is : shape_at bs l q.at ≡ Some t = sym (ap (shape_at bs l) here) ∙ shape_is bs l m t st.1 in
      let alike : t ≡ s = some_same e is in
      let at : At (children_of s) n j = subst (λ u. At (children_of u) n j) alike (st.2, st.3) in
      let last : j ≡ k = same j at in
      cc)
      (λ (ne : m ≡ q.at → ⊥). absurd (no_child m j (q.others m (omega arith) (omega (arith, st.1.0)) ne) st)) (cases_eq m q.at)

  child_once : Single kids (node_count bs l) 0 → total bodies (process_count bs l) 0 ≡ 0 → Once (Stands bs l n)
  child_once q none =
      let there = shape_there n (shape_at bs l q.at) q.one in
      let s = there.0 in
      let r = occurs_one n (children_of s) (sym (kids_at_lem q.at s there.1) ∙ q.one) in
      (child q.at r.0, (s, is_node bs l q.at s (omega (arith, q.high)) there.1, r.1.0, r.1.1), only_child q s there.1 r.0 r.2 none)

  pub once_placed : node_once bs l n ≡ true → Once (Stands bs l n)
  once_placed h =
      let sum = eqb-true (total bodies (process_count bs l) 0 + total kids (node_count bs l) 0) 1 h in
      ⊎_elim (λ (e : total bodies (process_count bs l) 0 ≡ 1). body_once (total_one bodies (process_count bs l) 0 e) (omega arith))
      (λ (ne : total bodies (process_count bs l) 0 ≡ 1 → ⊥).
      let none : total bodies (process_count bs l) 0 ≡ 0 = omega arith in
      child_once (total_one kids (node_count bs l) 0 (omega arith)) none)
      (cases_eq (total bodies (process_count bs l) 0) 1)

  -- where no place is a child of node m, it counts for nothing
  kids_none : (m : ℕ) → m < node_count bs l → (o : Option Shape) → shape_at bs l m ≡ o → ((k : ℕ) → Stands bs l n (child m k) → ⊥) → children n o ≡ 0
  kids_none m low None e none = refl
  kids_none m low (Some s) e none = occurs_none n (children_of s) (λ k at. none k (s, is_node bs l m s low e, at.0, at.1))

  placed_made : (x : Place) → Stands bs l n x → ((y : Place) → Stands bs l n y → y ≡ x) → total bodies (process_count bs l) 0 + total kids (node_count bs l) 0 ≡ 1
  placed_made (body i) st same =
      let a = total_single bodies (process_count bs l) 0 (record {
        at = i;
        low = omega arith;
        high = omega (arith, st.0);
        one = one_given (body_of bs l i) n st.1;
        others = λ j low high ne. one_other (body_of bs l j) n (λ e. ne (body_same (same (body j) (omega arith, e))));
      }) in
      let b = total_none kids (node_count bs l) 0 (λ m low high. kids_none m (omega arith) (shape_at bs l m) refl (λ k q. apart (same (child m k) q))) in
      omega arith
  placed_made (child m k) st same =
      let s = st.0 in
      let a = total_none bodies (process_count bs l) 0 (λ i low high. one_other (body_of bs l i) n (λ e. apart (sym (same (body i) (omega arith, e))))) in
      let here : kids m ≡ 1 = kids_at_lem m s (shape_is bs l m s st.1) ∙ occurs_single n (children_of s) k (st.2, st.3) (λ j at. child_same (same (child m j) (s, st.1, at.0, at.1))) in
      let b = total_single kids (node_count bs l) 0 (record {
        at = m;
        low = omega arith;
        high = omega (arith, st.1.0);
        one = here;
        others = λ j low high ne. kids_none j (omega arith) (shape_at bs l j) refl (λ i q. ne (child_node (same (child j i) q)));
      }) in
      omega arith

  pub once_made : Once (Stands bs l n) → node_once bs l n ≡ true
  once_made (x, st, same) = eq-eqb (total bodies (process_count bs l) 0 + total kids (node_count bs l) 0) 1 (placed_made x st same)
