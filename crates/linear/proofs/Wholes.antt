-- Whole files that were read: their words are those of the equation, and it keeps the laws. Assumes nothing.
use Rattle.std.proofs.Common.{◌≡◌, ℕ, zero, suc, ◌+◌, ◌-◌, ◌*◌, Bool, true, ◌&&◌, eqb, ltb, leb, List, [], ◌∷◌, ◌++◌, length, get_or, Ok, Err, Result, sym, refl, ap, ◌∙◌, subst, append_assoc, add-one, arith}
use Rattle.std.specs.List.{flat_map}
use Rattle.std.proofs.lemmas.List.{append-nil, length-append}
use Rattle.std.proofs.lemmas.Bool.{and_parts, and_from, leb-true, le-leb, eqb-true}
use Rattle.words.specs.Headers.{header_of, headed}
use Rattle.words.specs.Words.{Bytes}
use Rattle.words.specs.declared.header.HeaderFault.{HeaderFault}
use Rattle.words.proofs.Headed.{header_rules}
use Rattle.linear.specs.Equations.{Acts, Leads, Summand, Vector, Linear}
use Rattle.linear.specs.Faults.{at, head}
use Rattle.linear.specs.Laws.{all, within, fitted, few_guard, few_delay, limits, named_guard, named_leads, named_acts, named_action, named_delay, named, small_sums, small, lawful}
use Rattle.linear.specs.Layout.{counted, guard_words, acts_words, rate_words, leads_words, summand_words, section_words, head_words, words_of, file_of}
use Rattle.linear.specs.Reading.{past, or_linear_fault, word_in, count_in, guard_in, acts_in, rate_in, leads_in, summand_in, summand_end, summands_from, section_in, actions_in, delays_in, kept_from, size_rule, value_rule, head_in, table_in, fails_from, named_in, products_in, linear_file}
use Rattle.linear.specs.declared.fault.Group.{Group}
use Rattle.linear.specs.declared.fault.Group.TheVariants.{Actions, Delays}
use Rattle.linear.specs.declared.fault.Place.{Place}
use Rattle.linear.specs.declared.fault.LinearFault.{LinearFault}
use Rattle.linear.specs.declared.fault.LinearFault.TheVariants.{Length, Limit, Misnamed, Product}
use Rattle.linear.proofs.Shows.{Shows, shows_at, shows_join, show_bytes}
use Rattle.linear.proofs.Parsed.{then_inv, cond_inv, ok_inv, word_shown, count_shown, guard_shown, acts_shown, rate_shown, leads_shown, length_entries}

pub all_back : {X : Type 0} (p : X → Bool) (xs ys : List X) → all p (xs ++ ys) ≡ true → all p ys ≡ true
all_back p [] ys h = h
all_back p (x ∷ xs) ys h = all_back p xs ys (and_parts (p x) (all p (xs ++ ys)) h).1

pub all_weaker : {X : Type 0} (p q : X → Bool) → ((x : X) → p x ≡ true → q x ≡ true) → (xs : List X) → all p xs ≡ true → all q xs ≡ true
all_weaker p q weaker [] h = refl
all_weaker p q weaker (x ∷ xs) h =
    let a = and_parts (p x) (all p xs) h in
    and_from (q x) (all q xs) (weaker x a.0) (all_weaker p q weaker xs a.1)

-- an entry for each of v variables
abbrev pub entered : {D : Type 0} → ℕ → Summand D → Bool
entered v s = eqb (length s.leads.entries) v

module _ {D : Type 0} (does_in : List ℕ → Place → ℕ → Result D LinearFault) (does_words : D → List ℕ) (v : ℕ) where
  pub end_is : (p : ℕ) (s : Summand D) → entered v s ≡ true → summand_end does_in does_words v p s ≡ past p (summand_words does_words s)
  end_is p s e =
      let long = eqb-true (length s.leads.entries) v e in
      let one = length-append (guard_words s.when) (does_words s.does ++ leads_words s.leads) in
      let two = length-append (does_words s.does) (leads_words s.leads) in
      let three = length_entries s.leads.entries in
      omega arith

  module _ (bs : List ℕ) (few_does : D → Bool) (does-shown : (q : Place) (p : ℕ) (d : D) → does_in bs q p ≡ Ok d → Shows bs p (does_words d) × (few_does d ≡ true)) where
    abbrev pub few : Summand D → Bool
    few s = few_guard s.when && few_does s.does

    summand_shown : (q : Place) (p : ℕ) (s : Summand D) → summand_in does_in does_words bs v q p ≡ Ok s → entered v s ≡ true → Shows bs p (summand_words does_words s) × (few s ≡ true)
    summand_shown q p s h e =
        let i = then_inv (guard_in bs q p) _ s h in
        let g = i.0 in
        let j = then_inv (does_in bs q (past p (guard_words g))) _ s i.1.1 in
        let d = j.0 in
        let k = then_inv (leads_in bs q v (past (past p (guard_words g)) (does_words d))) _ s j.1.1 in
        let t = k.0 in
        let made : Summand D = record { when = g; does = d; leads = t } in
        let same = ok_inv made s k.1.1 in
        let long : length t.entries ≡ v = ap (λ (y : Summand D). length y.leads.entries) same ∙ eqb-true (length s.leads.entries) v e in
        let a = guard_shown bs q p g i.1.0 in
        let b = does-shown q (past p (guard_words g)) d j.1.0 in
        let c = leads_shown bs q v (past (past p (guard_words g)) (does_words d)) t k.1.0 long in
        let shows : Shows bs p (summand_words does_words made) = shows_join bs (guard_words g) (does_words d ++ leads_words t) p a.0 (shows_join bs (does_words d) (leads_words t) (past p (guard_words g)) b.0 c) in
        let P : Summand D → Type 0 = λ y. Shows bs p (summand_words does_words y) × (few y ≡ true) in
        subst P same (shows, and_from (few_guard g) (few_does d) a.1 b.1)

    pub summands_shown : (g : Group) (n k p : ℕ) (ss ts : List (Summand D)) (e : ℕ) → summands_from does_in does_words bs v g n k p ss ≡ Ok (ts, e) → all (entered v) ts ≡ true → (us : List (Summand D)) × ((ts ≡ ss ++ us) × ((length us ≡ n) × (Shows bs p (flat_map (summand_words does_words) us) × ((e ≡ past p (flat_map (summand_words does_words) us)) × (all few us ≡ true)))))
    summands_shown g zero k p ss ts e h ok =
        let same = ok_inv (ss, p) (ts, e) h in
        ([], (ap (λ (z : List (Summand D) × ℕ). z.0) (sym same) ∙ sym (append-nil ss), (refl, (tt, (ap (λ (z : List (Summand D) × ℕ). z.1) (sym same) ∙ omega arith, refl)))))
    summands_shown g (suc n) k p ss ts e h ok =
        let i = then_inv (summand_in does_in does_words bs v (at g k) p) _ (ts, e) h in
        let s = i.0 in
        let r = summands_shown g n (k + 1) (summand_end does_in does_words v p s) (ss ++ (s ∷ [])) ts e i.1.1 ok in
        let us = r.0 in
        let whole : ts ≡ ss ++ (s ∷ us) = r.1.0 ∙ append_assoc ss (s ∷ []) us in
        let rest = all_back (entered v) ss (s ∷ us) (ap (all (entered v)) (sym whole) ∙ ok) in
        let here = (and_parts (entered v s) (all (entered v) us) rest).0 in
        let a = summand_shown (at g k) p s i.1.0 here in
        let end = end_is p s here in
        let tail = flat_map (summand_words does_words) us in
        let long = length-append (summand_words does_words s) tail in
        let last = r.1.1.1.1.0 in
        (s ∷ us, (whole, (ap suc r.1.1.0, (shows_join bs (summand_words does_words s) tail p a.0 (shows_at bs tail (summand_end does_in does_words v p s) (past p (summand_words does_words s)) end r.1.1.1.0), (omega arith, and_from (few s) (all few us) a.1 r.1.1.1.1.1)))))

    pub section_shown : (g : Group) (high p : ℕ) (ts : List (Summand D)) (e : ℕ) → section_in does_in does_words bs v g high p ≡ Ok (ts, e) → all (entered v) ts ≡ true → Shows bs p (section_words does_words ts) × ((e ≡ past p (section_words does_words ts)) × ((all few ts ≡ true) × (leb (length ts) high ≡ true)))
    section_shown g high p ts e h ok =
        let i = then_inv (count_in bs (at g 0) 0 high p) _ (ts, e) h in
        let n = i.0 in
        let c = count_shown bs (at g 0) 0 high p n i.1.0 in
        let r = summands_shown g n 0 (p + 2) [] ts e i.1.1 ok in
        let us = r.0 in
        let same : us ≡ ts = sym r.1.0 in
        let P : List (Summand D) → Type 0 = λ ys. Shows bs p (section_words does_words ys) × ((e ≡ past p (section_words does_words ys)) × ((all few ys ≡ true) × (leb (length ys) high ≡ true))) in
        let last = r.1.1.1.1.0 in
        subst P same ((c.0, c.1 ∙ sym r.1.1.0, r.1.1.1.0), (omega arith, (r.1.1.1.1.1, ap (λ m. leb m high) r.1.1.0 ∙ (and_parts (leb 0 n) (leb n high) c.2).1)))

-- each word keeps its rule
abbrev pub keeps_from : (ℕ → ℕ → Bool) → ℕ → List ℕ → Bool
keeps_from rule k [] = true
keeps_from rule k (w ∷ ws) = rule k w && keeps_from rule (k + 1) ws

pub kept_shown : (rule : ℕ → ℕ → Bool) (bs : List ℕ) (n k p : ℕ) (xs ys : List ℕ) → kept_from rule bs n k p xs ≡ Ok ys → (zs : List ℕ) × ((ys ≡ xs ++ zs) × ((length zs ≡ n) × (Shows bs p zs × (keeps_from rule k zs ≡ true))))
kept_shown rule bs zero k p xs ys h = ([], (sym (ok_inv xs ys h) ∙ sym (append-nil xs), (refl, (tt, refl))))
kept_shown rule bs (suc n) k p xs ys h =
    let i = then_inv (word_in bs head p) _ ys h in
    let w = i.0 in
    let a = word_shown bs head p w i.1.0 in
    let c = cond_inv (rule k w) (kept_from rule bs n (k + 1) (p + 2) (xs ++ (w ∷ []))) (Limit head) ys i.1.1 in
    let r = kept_shown rule bs n (k + 1) (p + 2) (xs ++ (w ∷ [])) ys c.1 in
    (w ∷ r.0, (r.1.0 ∙ append_assoc xs (w ∷ []) r.0, (ap suc r.1.1.0, ((a.0, a.1, r.1.1.1.0), and_from (rule k w) (keeps_from rule (k + 1) r.0) c.0 r.1.1.1.1))))

pub sizes_kept : (k : ℕ) (zs : List ℕ) → keeps_from size_rule k zs ≡ all (within 1 256) zs
sizes_kept k [] = refl
sizes_kept k (z ∷ zs) = ap (λ b. within 1 256 z && b) (sizes_kept (k + 1) zs)

value_shift : (n : ℕ) (ns : List ℕ) (k : ℕ) (zs : List ℕ) → keeps_from (value_rule (n ∷ ns)) (k + 1) zs ≡ keeps_from (value_rule ns) k zs
value_shift n ns k [] = refl
value_shift n ns k (z ∷ zs) =
    let e : get_or (n ∷ ns) (k + 1) 0 ≡ get_or ns k 0 = ap (λ m. get_or (n ∷ ns) m 0) (add-one k) in
    ap (λ m. ltb z m && keeps_from (value_rule (n ∷ ns)) (k + 1 + 1) zs) e ∙ ap (λ b. ltb z (get_or ns k 0) && b) (value_shift n ns (k + 1) zs)

pub values_kept : (ns zs : List ℕ) → length zs ≡ length ns → keeps_from (value_rule ns) 0 zs ≡ fitted ns zs
values_kept [] [] e = refl
values_kept [] (z ∷ zs) e = absurd (omega arith)
values_kept (n ∷ ns) [] e = absurd (omega arith)
values_kept (n ∷ ns) (z ∷ zs) e = ap (λ b. ltb z n && b) (value_shift n ns 0 zs ∙ values_kept ns zs (omega arith))

-- the head
pub record HeadShown (bs : List ℕ) (sizes : List ℕ) (c : ℕ) (first : Vector) : Type 0 where
  pub shows : Shows bs 5 (counted sizes ++ (c ∷ (first.counter ∷ first.values)))
  pub few : leb (length sizes) 16 ≡ true
  pub sized : all (within 1 256) sizes ≡ true
  pub counters : within 1 256 c ≡ true
  pub fits : fitted sizes first.values ≡ true
  pub long : length first.values ≡ length sizes

pub head_shown : (bs : List ℕ) (sizes : List ℕ) (c : ℕ) (first : Vector) → head_in bs ≡ Ok (sizes, c, first) → HeadShown bs sizes c first
head_shown bs sizes c first h =
    let i = then_inv (count_in bs head 0 16 5) _ (sizes, c, first) h in
    let v = i.0 in
    let j = then_inv (kept_from size_rule bs v 0 7 []) _ (sizes, c, first) i.1.1 in
    let ns = j.0 in
    let k = then_inv (count_in bs head 1 256 (7 + 2 * v)) _ (sizes, c, first) j.1.1 in
    let l = then_inv (word_in bs head (7 + 2 * v + 2)) _ (sizes, c, first) k.1.1 in
    let m = then_inv (kept_from (value_rule ns) bs v 0 (7 + 2 * v + 4) []) _ (sizes, c, first) l.1.1 in
    let made : Vector = record { counter = l.0; values = m.0 } in
    let same : ◌≡◌ {A = List ℕ × ℕ × Vector} (ns, k.0, made) (sizes, c, first) = ok_inv (ns, k.0, made) (sizes, c, first) m.1.1 in
    let a = count_shown bs head 0 16 5 v i.1.0 in
    let s = kept_shown size_rule bs v 0 7 [] ns j.1.0 in
    let b = count_shown bs head 1 256 (7 + 2 * v) k.0 k.1.0 in
    let w = word_shown bs head (7 + 2 * v + 2) l.0 l.1.0 in
    let t = kept_shown (value_rule ns) bs v 0 (7 + 2 * v + 4) [] m.0 m.1.0 in
    let nz : ns ≡ s.0 = s.1.0 in
    let tz : m.0 ≡ t.0 = t.1.0 in
    let nlong : length ns ≡ v = ap length nz ∙ s.1.1.0 in
    let tlong : length m.0 ≡ v = ap length tz ∙ t.1.1.0 in
    let S : List ℕ → Type 0 = λ ys. Shows bs 7 ys in
    let T : List ℕ → Type 0 = λ ys. Shows bs (7 + 2 * v + 4) ys in
    let ns-shown : Shows bs 7 ns = subst S (sym nz) s.1.1.1.0 in
    let vs-shown : Shows bs (7 + 2 * v + 4) m.0 = subst T (sym tz) t.1.1.1.0 in
    let seven : 5 + 2 * suc (length ns) ≡ 7 + 2 * v = omega arith in
    let tail : Shows bs (7 + 2 * v) (k.0 ∷ (l.0 ∷ m.0)) = (b.0, b.1, (w.0, w.1, shows_at bs m.0 (7 + 2 * v + 4) (7 + 2 * v + 2 + 2) (omega arith) vs-shown)) in
    let front : Shows bs 5 (counted ns) = (a.0, a.1 ∙ sym nlong, ns-shown) in
    let whole : HeadShown bs ns k.0 made = record {
      shows = shows_join bs (counted ns) (k.0 ∷ (l.0 ∷ m.0)) 5 front (shows_at bs (k.0 ∷ (l.0 ∷ m.0)) (7 + 2 * v) (5 + 2 * suc (length ns)) (sym seven) tail);
      few = ap (λ x. leb x 16) nlong ∙ (and_parts (leb 0 v) (leb v 16) a.2).1;
      sized = ap (all (within 1 256)) nz ∙ (sym (sizes_kept 0 s.0) ∙ s.1.1.1.1);
      counters = b.2;
      fits = ap (fitted ns) tz ∙ (sym (values_kept ns t.0 (t.1.1.0 ∙ sym nlong)) ∙ t.1.1.1.1);
      long = tlong ∙ sym nlong;
    } in
    let P : List ℕ × ℕ × Vector → Type 0 = λ y. HeadShown bs y.0 y.1 y.2 in
    subst P same whole

-- each summand that is named has an entry for each variable
named_entered : (v c : ℕ) (t : Leads) → named_leads v c t ≡ true → eqb (length t.entries) v ≡ true
named_entered v c t h = (and_parts (within 1 c t.counter) (eqb (length t.entries) v) h).1

pub action_entered : (v c : ℕ) (s : Summand Acts) → named_action v c s ≡ true → entered v s ≡ true
action_entered v c s h =
    named_entered v c s.leads (and_parts (named_guard v c s.when && named_acts v s.when.sums s.does) (named_leads v c s.leads) h).1

pub delay_entered : (v c : ℕ) (s : Summand ℕ) → named_delay v c s ≡ true → entered v s ≡ true
delay_entered v c s h = named_entered v c s.leads (and_parts (named_guard v c s.when) (named_leads v c s.leads) h).1

header_inv : (r : Result (Unit {0}) HeaderFault) (u : Unit {0}) → or_linear_fault r ≡ Ok u → r ≡ Ok tt
header_inv (Ok tt) u h = refl
header_inv (Err x) u h = let z : ◌≡◌ {A = ℕ} 0 1 = cc in absurd (omega arith)

abbrev few_acts : Acts → Bool
few_acts a = leb (length a.arguments) 4

abbrev few_rate : ℕ → Bool
few_rate r = true

pub table_shown : (bs : List ℕ) → Bytes bs → (e : Linear) → table_in bs ≡ Ok e → named e ≡ true → (bs ≡ file_of e) × (limits e ≡ true)
table_shown bs low e h ok =
    let i = then_inv (or_linear_fault (header_of bs)) _ e h in
    let j = then_inv (head_in bs) _ e i.1.1 in
    let hd = j.0 in
    let v = length hd.0 in
    let k = then_inv (actions_in bs v (11 + 4 * v)) _ e j.1.1 in
    let l = then_inv (delays_in bs v (length k.0.0) k.0.1) _ e k.1.1 in
    let as_read = k.0.0 in
    let ds-read = l.0.0 in
    let made : Linear = record { sizes = hd.0; counters = hd.1; first = hd.2; actions = as_read; delays = ds-read } in
    let m = cond_inv (eqb l.0.1 (length bs)) (Ok made) (Length head) e l.1.1 in
    let same = ok_inv made e m.1 in
    let done : named made ≡ true = ap named same ∙ ok in
    let n1 = and_parts (within 1 hd.1 hd.2.counter && all (named_action v hd.1) as_read) (all (named_delay v hd.1) ds-read) done in
    let n2 = and_parts (within 1 hd.1 hd.2.counter) (all (named_action v hd.1) as_read) n1.0 in
    let as-entered = all_weaker (named_action v hd.1) (entered v) (action_entered v hd.1) as_read n2.1 in
    let ds-entered = all_weaker (named_delay v hd.1) (entered v) (delay_entered v hd.1) ds-read n1.1 in
    let hs = head_shown bs hd.0 hd.1 hd.2 j.1.0 in
    let a = section_shown acts_in acts_words v bs few_acts (acts_shown bs) Actions 256 (11 + 4 * v) as_read k.0.1 k.1.0 as-entered in
    let d = section_shown rate_in rate_words v bs few_rate (rate_shown bs) Delays (256 - length as_read) k.0.1 ds-read l.0.1 l.1.0 ds-entered in
    let aw = section_words acts_words as_read in
    let dw = section_words rate_words ds-read in
    let hw = head_words made in
    let hlong : past 5 hw ≡ 11 + 4 * v = let x = hs.long in let y = length-append (counted hd.0) (hd.1 ∷ (hd.2.counter ∷ hd.2.values)) in omega arith in
    let tail = shows_join bs aw dw (11 + 4 * v) a.0 (shows_at bs dw k.0.1 (past (11 + 4 * v) aw) a.1.0 d.0) in
    let shows : Shows bs 5 (words_of made) = shows_join bs hw (aw ++ dw) 5 hs.shows (shows_at bs (aw ++ dw) (11 + 4 * v) (past 5 hw) (sym hlong) tail) in
    let long1 = length-append hw (aw ++ dw) in
    let long2 = length-append aw dw in
    let end1 = a.1.0 in
    let end2 = d.1.0 in
    let end3 = eqb-true l.0.1 (length bs) m.0 in
    let bytes = show_bytes bs low (words_of made) 5 shows (omega arith) in
    let whole : bs ≡ file_of made = (header_rules bs low).0 (header_inv (header_of bs) i.0 i.1.0) ∙ ap headed bytes in
    let room = leb-true (length ds-read) (256 - length as_read) d.1.1.1 in
    let room1 = leb-true (length as_read) 256 a.1.1.1 in
    let kept : limits made ≡ true =
    and_from _ _ (and_from _ _ (and_from _ _ (and_from _ _ (and_from _ _ (and_from _ _ hs.few hs.sized) hs.counters) hs.fits) (le-leb (length as_read + length ds-read) 256 (omega arith))) a.1.1.0)
    (all_weaker (λ s. few_guard s.when && true) few_delay (λ s q. (and_parts (few_guard s.when) true q).0) ds-read d.1.1.0) in
    let P : Linear → Type 0 = λ y. (bs ≡ file_of y) × (limits y ≡ true) in
    subst P same (whole, kept)

fails_all : {X : Type 0} (test : X → Bool) (fault : Place → LinearFault) (g : Group) (k : ℕ) (xs : List X) (u : Unit {0}) → fails_from test fault g k xs ≡ Ok u → all test xs ≡ true
fails_all test fault g k [] u h = refl
fails_all test fault g k (x ∷ xs) u h =
    let c = cond_inv (test x) (fails_from test fault g (k + 1) xs) (fault (at g k)) u h in
    and_from (test x) (all test xs) c.0 (fails_all test fault g (k + 1) xs u c.1)

named_from : (e : Linear) (u : Unit {0}) → named_in e ≡ Ok u → named e ≡ true
named_from e u h =
    let v = length e.sizes in
    let i = cond_inv (within 1 e.counters e.first.counter) _ (Misnamed head) u h in
    let j = then_inv (fails_from (named_action v e.counters) Misnamed Actions 0 e.actions) _ u i.1 in
    let a = fails_all (named_action v e.counters) Misnamed Actions 0 e.actions j.0 j.1.0 in
    let d = fails_all (named_delay v e.counters) Misnamed Delays 0 e.delays u j.1.1 in
    and_from _ _ (and_from _ _ i.0 a) d

small_from : (e : Linear) (u : Unit {0}) → products_in e ≡ Ok u → small e ≡ true
small_from e u h =
    let j = then_inv (fails_from (small_sums e.sizes) Product Actions 0 e.actions) _ u h in
    and_from _ _ (fails_all (small_sums e.sizes) Product Actions 0 e.actions j.0 j.1.0) (fails_all (small_sums e.sizes) Product Delays 0 e.delays u j.1.1)

-- what was read is lawful, and its file is the one that was read
pub read_whole : (bs : List ℕ) → Bytes bs → (e : Linear) → linear_file bs ≡ Ok e → (lawful e ≡ true) × (bs ≡ file_of e)
read_whole bs low e h =
    let i = then_inv (table_in bs) _ e h in
    let f = i.0 in
    let j = then_inv (named_in f) _ e i.1.1 in
    let k = then_inv (products_in f) _ e j.1.1 in
    let same = ok_inv f e k.1.1 in
    let n = named_from f j.0 j.1.0 in
    let s = small_from f k.0 k.1.0 in
    let t = table_shown bs low f i.1.0 n in
    let P : Linear → Type 0 = λ y. (lawful y ≡ true) × (bs ≡ file_of y) in
    subst P same (and_from _ _ (and_from _ _ t.1 n) s, t.0)
