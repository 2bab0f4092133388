-- The ways down are within their limits just where the test says so.
-- Assumes of the file what the other rules say, and that sizes are positive.
use Rattle.std.proofs.Common.{◌≡◌, ℕ, zero, suc, ◌+◌, ◌-◌, ◌*◌, ◌<◌, ◌≤◌, Bool, true, false, cond, ◌&&◌, leb, List, Some, Option, sym, refl, ap, ◌∙◌, subst, inl, inr, mul-le-mul_left, mul-one, add-one, arith}
use Rattle.std.proofs.lemmas.Bool.{and_parts, and_from, leb-true, le-leb}
use Rattle.model_file.specs.declared.layout.Layout.{Layout}
use Rattle.model_file.specs.Fields.{variable_count, size_of, node_count, process_count, body_of}
use Rattle.model_rules.specs.Shapes.{Shape, shape_at}
use Rattle.model_rules.specs.declared.shape.Shape.TheVariants.{Call, Condition, Choice, Sum, Action, Delay}
use Rattle.model_rules.specs.Sound.{Once, body, child, IsNode, Names, Stands, LeadsTo, Moved, IsCall, Resting, Way, here, condition, left, right, sum, Ends}
use Rattle.model_rules.specs.Tallies.{resting}
use Rattle.model_rules.specs.Ways.{limits, ways_of, ways, ways_fit}
use Rattle.model_rules.proofs.Decoded.{shape_is}
use Rattle.model_rules.proofs.Down.{ways_at}
use Rattle.model_rules.proofs.Moves.{resting_is, resting_made}

abbrev pub Within : ℕ → ℕ → ℕ → Type 0
Within s c p = (s ≤ 8) × (c ≤ 8) × (p ≤ 65536)

within_is : (s c p : ℕ) → limits s c p ≡ true → Within s c p
within_is s c p h =
    let a = and_parts (leb s 8) (leb c 8 && leb p 65536) h in
    let b = and_parts (leb c 8) (leb p 65536) a.1 in
    (leb-true s 8 a.0, leb-true c 8 b.0, leb-true p 65536 b.1)

within_made : (s c p : ℕ) → Within s c p → limits s c p ≡ true
within_made s c p (a, b, d) = and_from _ _ (le-leb s 8 a) (and_from _ _ (le-leb c 8 b) (le-leb p 65536 d))

some_same : {s t : Shape} {o : Option Shape} → o ≡ Some s → o ≡ Some t → s ≡ t
some_same p q = cc

child_node : {m k m' k' : ℕ} → child m k ≡ child m' k' → m ≡ m'
child_node e = cc

apart : {i m k : ℕ} → child m k ≡ body i → ⊥
apart e = cc

module _ (bs : List ℕ) (l : Layout) where
  ways_limits : (j n s c p : ℕ) → ways bs l j n s c p ≡ true → limits s c p ≡ true
  ways_limits zero n s c p h = h
  ways_limits (suc j) n s c p h = (and_parts (limits s c p) (ways_of bs (ways bs l j) (shape_at bs l n) s c p) h).0

  module _ (names : (n : ℕ) (s : Shape) → IsNode bs l n s → Names bs l n s) where
    -- what is left of the test at a node on the way: enough steps for all nodes below
    record On (n m s c p : ℕ) : Type 0 where
      steps : ℕ
      fits : ways bs l steps m s c p ≡ true
      enough : node_count bs l + n ≤ steps + m
      there : m < node_count bs l

    on_to : {n m s c p : ℕ} (o : Shape) → (q : On n m s c p) → IsNode bs l m o → ways_of bs (ways bs l (q.steps - 1)) (Some o) s c p ≡ true
    on_to {n} {m} {s} {c} {p} o q is =
        let e = ways_at bs l q.steps m s c p (λ z. omega (arith, q.enough, q.there)) (ways_limits q.steps m s c p q.fits) (Some o) (sym (shape_is bs l m o is)) in
        sym e ∙ q.fits

    on_way : (n m s c p : ℕ) → n < node_count bs l → ways bs l (node_count bs l) n 0 0 1 ≡ true → Way bs l n m s c p → On n m s c p
    on_way n i0 i1 i2 i3 low h here = record { steps = node_count bs l; fits = h; enough = omega arith; there = low }
    on_way n i0 i1 i2 i3 low h (condition {m} {s} {c} {p} {x} {y} w is) =
        let q = on_way n m s c p low h w in
        let up = names m (Condition x y) is in
        let fits : ways bs l (q.steps - 1) y s (c + 1) p ≡ true = on_to (Condition x y) q is in
        record { steps = q.steps - 1; fits = subst (λ d. ways bs l (q.steps - 1) y s d p ≡ true) (add-one c) fits; enough = omega (arith, q.enough, q.there, up.0); there = up.1 }
    on_way n i0 i1 i2 i3 low h (left {m} {s} {c} {p} {x} {y} w is) =
        let q = on_way n m s c p low h w in
        let up = names m (Choice x y) is in
        let fits = and_parts (ways bs l (q.steps - 1) x s c p) (ways bs l (q.steps - 1) y s c p) (on_to (Choice x y) q is) in
        record { steps = q.steps - 1; fits = fits.0; enough = omega (arith, q.enough, q.there, up.0.0); there = up.0.1 }
    on_way n i0 i1 i2 i3 low h (right {m} {s} {c} {p} {x} {y} w is) =
        let q = on_way n m s c p low h w in
        let up = names m (Choice x y) is in
        let fits = and_parts (ways bs l (q.steps - 1) x s c p) (ways bs l (q.steps - 1) y s c p) (on_to (Choice x y) q is) in
        record { steps = q.steps - 1; fits = fits.1; enough = omega (arith, q.enough, q.there, up.1.0); there = up.1.1 }
    on_way n i0 i1 i2 i3 low h (sum {m} {s} {c} {p} {v} {y} w is) =
        let q = on_way n m s c p low h w in
        let up = names m (Sum v y) is in
        let fits : ways bs l (q.steps - 1) y (s + 1) c (p * size_of bs v) ≡ true = on_to (Sum v y) q is in
        record { steps = q.steps - 1; fits = subst (λ d. ways bs l (q.steps - 1) y d c (p * size_of bs v) ≡ true) (add-one s) fits; enough = omega (arith, q.enough, q.there, up.1.0); there = up.1.1 }

    pub ways_kept : (n m s c p : ℕ) → n < node_count bs l → ways_fit bs l n ≡ true → Resting bs l n → Way bs l n m s c p → Within s c p
    ways_kept n m s c p low h rests w =
        let fits : ways bs l (node_count bs l) n 0 0 1 ≡ true = sym (ap (λ b. cond b (ways bs l (node_count bs l) n 0 0 1) true) (resting_made bs l n low rests)) ∙ h in
        let q = on_way n m s c p low fits w in
        within_is s c p (ways_limits q.steps m s c p q.fits)

  -- the other way round: each way goes on to an action or a delay
  module _ (sizes : (v : ℕ) → v < variable_count bs → 1 ≤ size_of bs v)
      (bodies : (i : ℕ) → i < process_count bs l → body_of bs l i < node_count bs l)
      (kinds : (n : ℕ) → n < node_count bs l → (s : Shape) × IsNode bs l n s)
      (names : (n : ℕ) (s : Shape) → IsNode bs l n s → Names bs l n s)
      (placed : (n : ℕ) → n < node_count bs l → Once (Stands bs l n))
      (calls : (n : ℕ) → IsCall bs l n → Moved bs l n) where
    leads_stands : (m n : ℕ) (s : Shape) → IsNode bs l m s → LeadsTo s n → Stands bs l n (child m 0)
    leads_stands m n (Call p f) is h = absurd h
    leads_stands m n (Condition x c) is h = absurd h
    leads_stands m n (Choice x y) is h = absurd h
    leads_stands m n (Sum v c) is h = absurd h
    leads_stands m n (Action a f v w c) is h = (Action a f v w c, is, omega arith, h)
    leads_stands m n (Delay r c) is h = (Delay r c, is, omega arith, h)

    -- a child of a condition, a choice or a sum is no call
    inner : (m k n : ℕ) (s : Shape) → IsNode bs l m s → Stands bs l n (child m k) → n < node_count bs l → ((c : ℕ) → LeadsTo s c → ⊥) → IsCall bs l n → ⊥
    inner m k n s is st low still call =
        let to = calls n call in
        let q = placed n low in
        let e : child m k ≡ child to.0 0 = q.2 (child m k) st ∙ sym (q.2 (child to.0 0) (leads_stands to.0 n to.1 to.2 to.3)) in
        let same : m ≡ to.0 = child_node e in
        let alike : to.1 ≡ s = some_same (ap (shape_at bs l) same ∙ shape_is bs l to.0 to.1 to.2) (shape_is bs l m s is) in
        still n (subst (λ t. LeadsTo t n) alike to.3)

    resting_no_call : (n : ℕ) → n < node_count bs l → Resting bs l n → IsCall bs l n → ⊥
    resting_no_call n low (inl (i, is)) call =
        let to = calls n call in
        let q = placed n low in
        apart (q.2 (child to.0 0) (leads_stands to.0 n to.1 to.2 to.3) ∙ sym (q.2 (body i) is))
    resting_no_call n low (inr (go, none)) call = none call

    record Reached (n s c p : ℕ) : Type 0 where
      to : ℕ
      sums : ℕ
      conditions : ℕ
      product : ℕ
      way : Way bs l n to sums conditions product
      ends : Ends bs l to
      more_sums : s ≤ sums
      more_conditions : c ≤ conditions
      more : p ≤ product

    larger : (p z : ℕ) → 1 ≤ z → p ≤ p * z
    larger p z h = subst (λ q. q ≤ p * z) (mul-one p) (mul-le-mul_left p h)

    reach_by : (d n m s c p : ℕ) → node_count bs l ≤ m + suc d → (IsCall bs l m → ⊥) → Way bs l n m s c p → (o : Shape) → IsNode bs l m o
        → ((y s' c' p' : ℕ) → node_count bs l ≤ y + d → y < node_count bs l → (IsCall bs l y → ⊥) → Way bs l n y s' c' p' → Reached n s' c' p') → Reached n s c p
    reach_by d n m s c p far none w (Call q f) is on = absurd (none (q, f, is))
    reach_by d n m s c p far none w (Condition x y) is on =
        let up = names m (Condition x y) is in
        let r = on y s (suc c) p (omega (arith, up.0)) up.1 (inner m 0 y (Condition x y) is (Condition x y, is, omega arith, refl) up.1 (λ _ h. h)) (condition w is) in
        record { to = r.to; sums = r.sums; conditions = r.conditions; product = r.product; way = r.way; ends = r.ends; more_sums = r.more_sums; more_conditions = omega (arith, r.more_conditions); more = r.more }
    reach_by d n m s c p far none w (Choice x y) is on =
        let up = names m (Choice x y) is in
        on x s c p (omega (arith, up.0.0)) up.0.1 (inner m 0 x (Choice x y) is (Choice x y, is, omega arith, refl) up.0.1 (λ _ h. h)) (left w is)
    reach_by d n m s c p far none w (Sum v y) is on =
        let up = names m (Sum v y) is in
        let r = on y (suc s) c (p * size_of bs v) (omega (arith, up.1.0)) up.1.1 (inner m 0 y (Sum v y) is (Sum v y, is, omega arith, refl) up.1.1 (λ _ h. h)) (sum w is) in
        record { to = r.to; sums = r.sums; conditions = r.conditions; product = r.product; way = r.way; ends = r.ends; more_sums = omega (arith, r.more_sums); more_conditions = r.more_conditions; more = omega (arith, larger p (size_of bs v) (sizes v up.0), r.more) }
    reach_by d n m s c p far none w (Action a f v x y) is on =
        record { to = m; sums = s; conditions = c; product = p; way = w; ends = (Action a f v x y, y, is, refl); more_sums = omega arith; more_conditions = omega arith; more = omega arith }
    reach_by d n m s c p far none w (Delay r y) is on =
        record { to = m; sums = s; conditions = c; product = p; way = w; ends = (Delay r y, y, is, refl); more_sums = omega arith; more_conditions = omega arith; more = omega arith }

    -- from m on, with d nodes at most below it
    reach : (d n m s c p : ℕ) → node_count bs l ≤ m + d → m < node_count bs l → (IsCall bs l m → ⊥) → Way bs l n m s c p → Reached n s c p
    reach zero n m s c p far low none w = absurd (omega arith)
    reach (suc d) n m s c p far low none w =
        let k = kinds m low in
        reach_by d n m s c p far none w k.0 k.1 (λ y s' c' p' far' low' none' w'. reach d n y s' c' p' far' low' none' w')

    module _ (n : ℕ) (kept : (m s c p : ℕ) → Way bs l n m s c p → Ends bs l m → Within s c p) where
      at_limits : (m s c p : ℕ) → m < node_count bs l → (IsCall bs l m → ⊥) → Way bs l n m s c p → limits s c p ≡ true
      at_limits m s c p low none w =
          let r = reach (node_count bs l) n m s c p (omega arith) low none w in
          let k = kept r.to r.sums r.conditions r.product r.way r.ends in
          within_made s c p (omega (arith, k.0, r.more_sums), omega (arith, k.1, r.more_conditions), omega (arith, k.2, r.more))

      step : (j m s c p : ℕ) → Way bs l n m s c p → (o : Shape) → IsNode bs l m o
          → ((y s' c' p' : ℕ) → y < node_count bs l → (IsCall bs l y → ⊥) → Way bs l n y s' c' p' → ways bs l j y s' c' p' ≡ true)
          → ways_of bs (ways bs l j) (Some o) s c p ≡ true
      step j m s c p w (Call q f) is on = refl
      step j m s c p w (Condition x y) is on =
          let up = names m (Condition x y) is in
          subst (λ d. ways bs l j y s d p ≡ true) (sym (add-one c)) (on y s (suc c) p up.1 (inner m 0 y (Condition x y) is (Condition x y, is, omega arith, refl) up.1 (λ _ h. h)) (condition w is))
      step j m s c p w (Choice x y) is on =
          let up = names m (Choice x y) is in
          and_from (ways bs l j x s c p) (ways bs l j y s c p)
          (on x s c p up.0.1 (inner m 0 x (Choice x y) is (Choice x y, is, omega arith, refl) up.0.1 (λ _ h. h)) (left w is))
          (on y s c p up.1.1 (inner m 1 y (Choice x y) is (Choice x y, is, omega arith, refl) up.1.1 (λ _ h. h)) (right w is))
      step j m s c p w (Sum v y) is on =
          let up = names m (Sum v y) is in
          subst (λ d. ways bs l j y d c (p * size_of bs v) ≡ true) (sym (add-one s)) (on y (suc s) c (p * size_of bs v) up.1.1 (inner m 0 y (Sum v y) is (Sum v y, is, omega arith, refl) up.1.1 (λ _ h. h)) (sum w is))
      step j m s c p w (Action a f v x y) is on = refl
      step j m s c p w (Delay r y) is on = refl

      fits : (j m s c p : ℕ) → m < node_count bs l → (IsCall bs l m → ⊥) → Way bs l n m s c p → ways bs l j m s c p ≡ true
      fits zero m s c p low none w = at_limits m s c p low none w
      fits (suc j) m s c p low none w =
          let k = kinds m low in
          and_from (limits s c p) (ways_of bs (ways bs l j) (shape_at bs l m) s c p) (at_limits m s c p low none w)
          (ap (λ o. ways_of bs (ways bs l j) o s c p) (shape_is bs l m k.0 k.1) ∙ step j m s c p w k.0 k.1 (λ y s' c' p' low' none' w'. fits j y s' c' p' low' none' w'))

    fits_by : (n : ℕ) → n < node_count bs l → ((m s c p : ℕ) → Resting bs l n → Way bs l n m s c p → Ends bs l m → Within s c p)
        → (b : Bool) → resting bs l n ≡ b → cond b (ways bs l (node_count bs l) n 0 0 1) true ≡ true
    fits_by n low kept true e =
        let rests = resting_is bs l n e in
        fits n (λ m s c p w ends. kept m s c p rests w ends) (node_count bs l) n 0 0 1 low (resting_no_call n low rests) here
    fits_by n low kept false e = refl

    pub ways_made : (n : ℕ) → n < node_count bs l → ((m s c p : ℕ) → Resting bs l n → Way bs l n m s c p → Ends bs l m → Within s c p) → ways_fit bs l n ≡ true
    ways_made n low kept = fits_by n low kept (resting bs l n) refl
