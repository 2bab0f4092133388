-- The file of a lawful equation reads back as that equation. Assumes nothing.
use Rattle.std.proofs.Common.{◌≡◌, ℕ, suc, ◌+◌, ◌-◌, ◌*◌, ◌≤◌, Bool, true, cond, ◌&&◌, eqb, ltb, leb, List, [], ◌∷◌, ◌++◌, length, Some, Ok, Err, Option, Result, sym, refl, ap, ◌∙◌, append_assoc, arith}
use Rattle.std.specs.List.{flat_map}
use Rattle.std.proofs.lemmas.List.{append-nil, length-append}
use Rattle.std.proofs.lemmas.Bool.{and_parts, and_from, cond-true, leb-true, le-leb, eqb-true, eq-eqb}
use Rattle.words.specs.Headers.{header_of}
use Rattle.words.specs.Words.{word_at, Bytes}
use Rattle.words.proofs.Headed.{header_rules}
use Rattle.linear.specs.Equations.{Guarded, Acts, Leads, Summand, Vector, Linear}
use Rattle.linear.specs.Faults.{at, head}
use Rattle.linear.specs.Laws.{all, within, fitted, few_guard, few_action, few_delay, limits, named_action, named_delay, named, small_sums, small, lawful}
use Rattle.linear.specs.Layout.{counted, guard_words, acts_words, rate_words, entry_words, leads_words, summand_words, section_words, head_words, words_of, file_of}
use Rattle.linear.specs.Reading.{past, or_linear_fault, word_in, words_from, words_in, count_in, list_in, guard_in, acts_in, rate_in, entry_of, also, entries_from, or_no_entries, leads_in, summand_in, summand_end, summands_from, section_in, kept_from, size_rule, value_rule, head_in, table_in, fails_from, named_in, products_in, linear_file}
use Rattle.linear.specs.declared.entry.Entry.{Entry}
use Rattle.linear.specs.declared.entry.Entry.TheVariants.{Reset, Keep, Take}
use Rattle.linear.specs.declared.fault.Group.{Group}
use Rattle.linear.specs.declared.fault.Group.TheVariants.{Actions, Delays}
use Rattle.linear.specs.declared.fault.Place.{Place}
use Rattle.linear.specs.declared.fault.LinearFault.{LinearFault}
use Rattle.linear.specs.declared.fault.LinearFault.TheVariants.{Length, Limit, Misnamed, Product}
use Rattle.linear.proofs.Shows.{Shows, shows_at, shows_front, shows_back, shows_room, bytes_show, length_bytes}
use Rattle.linear.proofs.Steps.{then_ok}
use Rattle.linear.proofs.Parsed.{length_entries}
use Rattle.linear.proofs.Wholes.{entered, end_is, keeps_from, sizes_kept, values_kept, action_entered, delay_entered}

module _ (bs : List ℕ) where
  word_read : (q : Place) (p w : ℕ) → p + 2 ≤ length bs → word_at bs p ≡ w → Ok w ≡ word_in bs q p
  word_read q p w room is = ap Ok (sym is) ∙ sym (cond-true (leb (p + 2) (length bs)) (Ok (word_at bs p)) (Err (Length q)) (le-leb (p + 2) (length bs) room))

  words_read : (ws : List ℕ) (p : ℕ) → Shows bs p ws → words_from bs p (length ws) ≡ ws
  words_read [] p h = refl
  words_read (w ∷ ws) p (room, is, h) = ap (λ x. x ∷ words_from bs (p + 2) (length ws)) is ∙ ap (λ l. w ∷ l) (words_read ws (p + 2) h)

  count_read : (q : Place) (low high p n : ℕ) → p + 2 ≤ length bs → word_at bs p ≡ n → within low high n ≡ true → Ok n ≡ count_in bs q low high p
  count_read q low high p n room is ok =
      then_ok (λ m. cond (within low high m) (Ok m) (Err (Limit q))) (word_read q p n room is) (sym (cond-true (within low high n) (Ok n) (Err (Limit q)) ok))

  from_zero : (high n : ℕ) → leb n high ≡ true → within 0 high n ≡ true
  from_zero high n ok = and_from (leb 0 n) (leb n high) (le-leb 0 n (omega arith)) ok

  list_read : (q : Place) (high p : ℕ) (xs : List ℕ) → Shows bs p (counted xs) → leb (length xs) high ≡ true → Ok xs ≡ list_in bs q high p
  list_read q high p xs (room, is, h) ok =
      let n = length xs in
      let fits = shows_room bs xs (p + 2) room h in
      then_ok (λ m. words_in bs q m (p + 2)) (count_read q 0 high p n room is (from_zero high n ok))
      (ap Ok (sym (words_read xs (p + 2) h)) ∙ sym (cond-true (leb (p + 2 + 2 * n) (length bs)) (Ok (words_from bs (p + 2) n)) (Err (Length q)) (le-leb (p + 2 + 2 * n) (length bs) fits)))

  guard_read : (q : Place) (p : ℕ) (g : Guarded) → Shows bs p (guard_words g) → few_guard g ≡ true → Ok g ≡ guard_in bs q p
  guard_read q p g (room, is, h) ok =
      let xs = g.sums in
      let es = g.conditions in
      let few = and_parts (leb (length xs) 8) (leb (length es) 8) ok in
      let a = list_read q 8 (p + 2) xs (shows_front bs (counted xs) (counted es) (p + 2) h) few.0 in
      let later : p + 2 + 2 * suc (length xs) ≡ p + 4 + 2 * length xs = omega arith in
      let b = list_read q 8 (p + 4 + 2 * length xs) es (shows_at bs (counted es) (p + 2 + 2 * suc (length xs)) (p + 4 + 2 * length xs) later (shows_back bs (counted xs) (counted es) (p + 2) h)) few.1 in
      then_ok _ (word_read q p g.counter room is) (then_ok _ a (then_ok _ b refl))

  pub acts_read : (q : Place) (p : ℕ) (a : Acts) → Shows bs p (acts_words a) → leb (length a.arguments) 4 ≡ true → Ok a ≡ acts_in bs q p
  acts_read q p a (room, is, h) ok =
      let es = a.arguments in
      let tail = a.variable ∷ (a.weight ∷ []) in
      let s = list_read q 4 (p + 2) es (shows_front bs (counted es) tail (p + 2) h) ok in
      let later : p + 2 + 2 * suc (length es) ≡ p + 4 + 2 * length es = omega arith in
      let last : p + 4 + 2 * length es + 2 ≡ p + 6 + 2 * length es = omega arith in
      let t = shows_at bs tail (p + 2 + 2 * suc (length es)) (p + 4 + 2 * length es) later (shows_back bs (counted es) tail (p + 2) h) in
      let u = shows_at bs (a.weight ∷ []) (p + 4 + 2 * length es + 2) (p + 6 + 2 * length es) last t.2 in
      then_ok _ (word_read q p a.action room is) (then_ok _ s (then_ok _ (word_read q (p + 4 + 2 * length es) a.variable t.0 t.1) (then_ok _ (word_read q (p + 6 + 2 * length es) a.weight u.0 u.1) refl)))

  pub rate_read : (q : Place) (p r : ℕ) → Shows bs p (rate_words r) → ◌≡◌ {A = Bool} true true → Ok r ≡ rate_in bs q p
  rate_read q p r (room, is, h) ok = word_read q p r room is

  entry_of_lem : (y : Entry) (k e : ℕ) → entry_words y ≡ k ∷ (e ∷ []) → entry_of k e ≡ Some y
  entry_of_lem Reset k e h = let a : k ≡ 0 = cc in let b : e ≡ 0 = cc in ap (λ m. entry_of m e) a ∙ ap (entry_of 0) b
  entry_of_lem Keep k e h = let a : k ≡ 1 = cc in let b : e ≡ 0 = cc in ap (λ m. entry_of m e) a ∙ ap (entry_of 1) b
  entry_of_lem (Take x) k e h = let a : k ≡ 2 = cc in let b : e ≡ x = cc in ap (λ m. entry_of m e) a ∙ ap (entry_of 2) b

  entry_read : (y : Entry) (rest : List ℕ) (p : ℕ) → Shows bs p (entry_words y ++ rest) → (entry_of (word_at bs p) (word_at bs (p + 2)) ≡ Some y) × Shows bs (p + 2 + 2) rest
  entry_read Reset rest p (room, is, (room2, is2, h)) = (entry_of_lem Reset (word_at bs p) (word_at bs (p + 2)) (cc), h)
  entry_read Keep rest p (room, is, (room2, is2, h)) = (entry_of_lem Keep (word_at bs p) (word_at bs (p + 2)) (cc), h)
  entry_read (Take x) rest p (room, is, (room2, is2, h)) = (entry_of_lem (Take x) (word_at bs p) (word_at bs (p + 2)) (cc), h)

  entries_read : (es : List Entry) (p : ℕ) → Shows bs p (flat_map entry_words es) → entries_from bs p (length es) ≡ Some es
  entries_read [] p h = refl
  entries_read (e ∷ es) p h =
      let a = entry_read e (flat_map entry_words es) p h in
      let four : p + 2 + 2 ≡ p + 4 = omega arith in
      let b = entries_read es (p + 4) (shows_at bs (flat_map entry_words es) (p + 2 + 2) (p + 4) four a.1) in
      ap (λ o. also o (entries_from bs (p + 4) (length es))) a.0 ∙ ap (also (Some e)) b

  leads_read : (q : Place) (v p : ℕ) (t : Leads) → Shows bs p (leads_words t) → eqb (length t.entries) v ≡ true → Ok t ≡ leads_in bs q v p
  leads_read q v p t (room, is, h) ok =
      let es = t.entries in
      let long = eqb-true (length es) v ok in
      let fits = shows_room bs (flat_map entry_words es) (p + 2) room h in
      let twice = length_entries es in
      let made : Option (List Entry) → Leads = λ o. record { counter = t.counter; entries = or_no_entries o } in
      let there = sym (entries_read es (p + 2) h) ∙ ap (entries_from bs (p + 2)) long in
      then_ok _ (word_read q p t.counter room is) (ap (λ o. Ok (made o)) there ∙ sym (cond-true (leb (p + 2 + 4 * v) (length bs)) (Ok (made (entries_from bs (p + 2) v))) (Err (Length q)) (le-leb (p + 2 + 4 * v) (length bs) (omega arith))))

  module _ {D : Type 0} (does_in : List ℕ → Place → ℕ → Result D LinearFault) (does_words : D → List ℕ) (v : ℕ) (few_does : D → Bool) (does-read : (q : Place) (p : ℕ) (d : D) → Shows bs p (does_words d) → few_does d ≡ true → Ok d ≡ does_in bs q p) where
    abbrev kept : Summand D → Bool
    kept s = few_guard s.when && few_does s.does && entered v s

    summand_read : (q : Place) (p : ℕ) (s : Summand D) → Shows bs p (summand_words does_words s) → kept s ≡ true → Ok s ≡ summand_in does_in does_words bs v q p
    summand_read q p s h ok =
        let gw = guard_words s.when in
        let dw = does_words s.does in
        let lw = leads_words s.leads in
        let k1 = and_parts (few_guard s.when && few_does s.does) (entered v s) ok in
        let k2 = and_parts (few_guard s.when) (few_does s.does) k1.0 in
        let back = shows_back bs gw (dw ++ lw) p h in
        then_ok _ (guard_read q p s.when (shows_front bs gw (dw ++ lw) p h) k2.0)
        (then_ok _ (does-read q (past p gw) s.does (shows_front bs dw lw (past p gw) back) k2.1)
        (then_ok _ (leads_read q v (past (past p gw) dw) s.leads (shows_back bs dw lw (past p gw) back) k1.1) refl))

    pub summands_read : (g : Group) (us : List (Summand D)) (k p : ℕ) (ss : List (Summand D)) → Shows bs p (flat_map (summand_words does_words) us) → all kept us ≡ true → Ok (ss ++ us, past p (flat_map (summand_words does_words) us)) ≡ summands_from does_in does_words bs v g (length us) k p ss
    summands_read g [] k p ss h ok =
        let e : p + 2 * 0 ≡ p = omega arith in
        ap (λ xs. Ok (xs, p + 2 * 0)) (append-nil ss) ∙ ap (λ n. Ok (ss, n)) e
    summands_read g (s ∷ us) k p ss h ok =
        let sw = summand_words does_words s in
        let tail = flat_map (summand_words does_words) us in
        let parts = and_parts (kept s) (all kept us) ok in
        let here = (and_parts (few_guard s.when && few_does s.does) (entered v s) parts.0).1 in
        let end = end_is does_in does_words v p s here in
        let q = summand_end does_in does_words v p s in
        let back = shows_at bs tail (past p sw) q (sym end) (shows_back bs sw tail p h) in
        let rest = summands_read g us (k + 1) q (ss ++ (s ∷ [])) back parts.1 in
        let long = length-append sw tail in
        let place : past p (sw ++ tail) ≡ past q tail = omega arith in
        then_ok _ (summand_read (at g k) p s (shows_front bs sw tail p h) parts.0)
        (ap (λ xs. Ok (xs, past p (sw ++ tail))) (sym (append_assoc ss (s ∷ []) us)) ∙ ap (λ n. Ok ((ss ++ (s ∷ [])) ++ us, n)) place ∙ rest)

    pub section_read : (g : Group) (high p : ℕ) (us : List (Summand D)) → Shows bs p (section_words does_words us) → all kept us ≡ true → leb (length us) high ≡ true → Ok (us, past p (section_words does_words us)) ≡ section_in does_in does_words bs v g high p
    section_read g high p us (room, is, h) ok few =
        let tail = flat_map (summand_words does_words) us in
        let place : past p (length us ∷ tail) ≡ past (p + 2) tail = omega arith in
        then_ok _ (count_read (at g 0) 0 high p (length us) room is (from_zero high (length us) few))
        (ap (λ n. Ok (us, n)) place ∙ summands_read g us 0 (p + 2) [] h ok)

  kept_read : (rule : ℕ → ℕ → Bool) (zs : List ℕ) (k p : ℕ) (xs : List ℕ) → Shows bs p zs → keeps_from rule k zs ≡ true → Ok (xs ++ zs) ≡ kept_from rule bs (length zs) k p xs
  kept_read rule [] k p xs h ok = ap Ok (append-nil xs)
  kept_read rule (z ∷ zs) k p xs (room, is, h) ok =
      let parts = and_parts (rule k z) (keeps_from rule (k + 1) zs) ok in
      let rest = kept_read rule zs (k + 1) (p + 2) (xs ++ (z ∷ [])) h parts.1 in
      then_ok _ (word_read head p z room is)
      (ap Ok (sym (append_assoc xs (z ∷ []) zs)) ∙ rest ∙ sym (cond-true (rule k z) (kept_from rule bs (length zs) (k + 1) (p + 2) (xs ++ (z ∷ []))) (Err (Limit head)) parts.0))

  fitted_long : (ns zs : List ℕ) → fitted ns zs ≡ true → length zs ≡ length ns
  fitted_long [] [] h = refl
  fitted_long [] (z ∷ zs) h = let w : ◌≡◌ {A = ℕ} 0 1 = cc in absurd (omega arith)
  fitted_long (n ∷ ns) [] h = let w : ◌≡◌ {A = ℕ} 0 1 = cc in absurd (omega arith)
  fitted_long (n ∷ ns) (z ∷ zs) h = ap suc (fitted_long ns zs (and_parts (ltb z n) (fitted ns zs) h).1)

  head_read : (sizes : List ℕ) (c : ℕ) (first : Vector) → Shows bs 5 (counted sizes ++ (c ∷ (first.counter ∷ first.values))) → leb (length sizes) 16 ≡ true → all (within 1 256) sizes ≡ true → within 1 256 c ≡ true → fitted sizes first.values ≡ true → Ok (sizes, c, first) ≡ head_in bs
  head_read sizes c first h few sized counters fits =
      let v = length sizes in
      let tail = c ∷ (first.counter ∷ first.values) in
      let front = shows_front bs (counted sizes) tail 5 h in
      let seven : 5 + 2 * suc v ≡ 7 + 2 * v = omega arith in
      let back = shows_at bs tail (5 + 2 * suc v) (7 + 2 * v) seven (shows_back bs (counted sizes) tail 5 h) in
      let values = first.values in
      let long = fitted_long sizes values fits in
      let four : 7 + 2 * v + 2 + 2 ≡ 7 + 2 * v + 4 = omega arith in
      let vs = shows_at bs values (7 + 2 * v + 2 + 2) (7 + 2 * v + 4) four back.2.2 in
      let read-values : Ok values ≡ kept_from (value_rule sizes) bs v 0 (7 + 2 * v + 4) [] = kept_read (value_rule sizes) values 0 (7 + 2 * v + 4) [] vs (values_kept sizes values long ∙ fits) ∙ ap (λ n. kept_from (value_rule sizes) bs n 0 (7 + 2 * v + 4) []) long in
      then_ok _ (count_read head 0 16 5 v front.0 front.1 (from_zero 16 v few))
      (then_ok _ (kept_read size_rule sizes 0 7 [] front.2 (sizes_kept 0 sizes ∙ sized))
      (then_ok _ (count_read head 1 256 (7 + 2 * v) c back.0 back.1 counters)
      (then_ok _ (word_read head (7 + 2 * v + 2) first.counter back.2.0 back.2.1)
      (then_ok _ read-values refl))))

abbrev few_acts : Acts → Bool
few_acts a = leb (length a.arguments) 4

abbrev few_rate : ℕ → Bool
few_rate r = true

both : {X : Type 0} (p q r : X → Bool) → ((x : X) → p x ≡ true → q x ≡ true → r x ≡ true) → (xs : List X) → all p xs ≡ true → all q xs ≡ true → all r xs ≡ true
both p q r join [] h k = refl
both p q r join (x ∷ xs) h k =
    let a = and_parts (p x) (all p xs) h in
    let b = and_parts (q x) (all q xs) k in
    and_from (r x) (all r xs) (join x a.0 b.0) (both p q r join xs a.1 b.1)

pub all_pass : {X : Type 0} (test : X → Bool) (fault : Place → LinearFault) (g : Group) (k : ℕ) (xs : List X) → all test xs ≡ true → Ok tt ≡ fails_from test fault g k xs
all_pass test fault g k [] h = refl
all_pass test fault g k (x ∷ xs) h =
    let a = and_parts (test x) (all test xs) h in
    all_pass test fault g (k + 1) xs a.1 ∙ sym (cond-true (test x) (fails_from test fault g (k + 1) xs) (Err (fault (at g k))) a.0)

table_read : (e : Linear) → Bytes (file_of e) → limits e ≡ true → named e ≡ true → Ok e ≡ table_in (file_of e)
table_read e low lim nam =
    let bs = file_of e in
    let v = length e.sizes in
    let c = e.counters in
    let l6 = and_parts _ (all few_delay e.delays) lim in
    let l5 = and_parts _ (all few_action e.actions) l6.0 in
    let l4 = and_parts _ (leb (length e.actions + length e.delays) 256) l5.0 in
    let l3 = and_parts _ (fitted e.sizes e.first.values) l4.0 in
    let l2 = and_parts _ (within 1 256 c) l3.0 in
    let l1 = and_parts (leb v 16) (all (within 1 256) e.sizes) l2.0 in
    let n2 = and_parts _ (all (named_delay v c) e.delays) nam in
    let n1 = and_parts (within 1 c e.first.counter) (all (named_action v c) e.actions) n2.0 in
    let total = leb-true (length e.actions + length e.delays) 256 l4.1 in
    let shows = bytes_show bs (words_of e) 5 refl in
    let hw = head_words e in
    let aw = section_words acts_words e.actions in
    let dw = section_words rate_words e.delays in
    let vlong = fitted_long bs e.sizes e.first.values l3.1 in
    let hlong : past 5 hw ≡ 11 + 4 * v = let y = length-append (counted e.sizes) (c ∷ (e.first.counter ∷ e.first.values)) in omega arith in
    let h = head_read bs e.sizes c e.first (shows_front bs hw (aw ++ dw) 5 shows) l1.0 l1.1 l2.1 l3.1 in
    let back = shows_at bs (aw ++ dw) (past 5 hw) (11 + 4 * v) hlong (shows_back bs hw (aw ++ dw) 5 shows) in
    let as-kept = both few_action (named_action v c) (λ s. few_guard s.when && few_acts s.does && entered v s) (λ s x y. and_from _ (entered v s) x (action_entered v c s y)) e.actions l5.1 n1.1 in
    let ds-kept = both few_delay (named_delay v c) (λ s. few_guard s.when && few_rate s.does && entered v s) (λ s x y. and_from _ (entered v s) (and_from (few_guard s.when) true x refl) (delay_entered v c s y)) e.delays l6.1 n2.1 in
    let a = section_read bs acts_in acts_words v few_acts (acts_read bs) Actions 256 (11 + 4 * v) e.actions (shows_front bs aw dw (11 + 4 * v) back) as-kept (le-leb (length e.actions) 256 (omega arith)) in
    let d = section_read bs rate_in rate_words v few_rate (rate_read bs) Delays (256 - length e.actions) (past (11 + 4 * v) aw) e.delays (shows_back bs aw dw (11 + 4 * v) back) ds-kept (le-leb (length e.delays) (256 - length e.actions) (omega arith)) in
    let ok : header_of bs ≡ Ok tt = (header_rules bs low).1 refl in
    let long = length-append hw (aw ++ dw) in
    let long2 = length-append aw dw in
    let end : past (past (11 + 4 * v) aw) dw ≡ length bs = let b = length_bytes (words_of e) in omega arith in
    then_ok _ (ap or_linear_fault (sym ok)) (then_ok _ h (then_ok _ a (then_ok _ d (sym (cond-true (eqb (past (past (11 + 4 * v) aw) dw) (length bs)) (Ok e) (Err (Length head)) (eq-eqb (past (past (11 + 4 * v) aw) dw) (length bs) end))))))

-- the file of a lawful equation reads back as it
pub written_reads : (e : Linear) → Bytes (file_of e) → lawful e ≡ true → linear_file (file_of e) ≡ Ok e
written_reads e low ok =
    let v = length e.sizes in
    let c = e.counters in
    let p2 = and_parts (limits e && named e) (small e) ok in
    let p1 = and_parts (limits e) (named e) p2.0 in
    let n2 = and_parts _ (all (named_delay v c) e.delays) p1.1 in
    let n1 = and_parts (within 1 c e.first.counter) (all (named_action v c) e.actions) n2.0 in
    let s = and_parts (all (small_sums e.sizes) e.actions) (all (small_sums e.sizes) e.delays) p2.1 in
    let nam : Ok tt ≡ named_in e = then_ok (λ _. fails_from (named_delay v c) Misnamed Delays 0 e.delays) (all_pass (named_action v c) Misnamed Actions 0 e.actions n1.1) (all_pass (named_delay v c) Misnamed Delays 0 e.delays n2.1) ∙ sym (cond-true (within 1 c e.first.counter) _ (Err (Misnamed head)) n1.0) in
    let prod : Ok tt ≡ products_in e = then_ok (λ _. fails_from (small_sums e.sizes) Product Delays 0 e.delays) (all_pass (small_sums e.sizes) Product Actions 0 e.actions s.0) (all_pass (small_sums e.sizes) Product Delays 0 e.delays s.1) in
    sym (then_ok _ (table_read e low p1.0 p1.1) (then_ok _ nam (then_ok _ prod refl)))
