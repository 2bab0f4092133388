-- What is read stands in the file: its words are those of what was read. Assumes nothing.
use Rattle.std.proofs.Common.{◌≡◌, ℕ, zero, suc, ◌+◌, ◌*◌, ◌≤◌, Bool, true, false, cond, eqb, leb, List, [], ◌∷◌, ◌++◌, length, Some, None, Ok, Err, Option, Result, sym, refl, ap, ◌∙◌, subst, arith}
use Rattle.std.specs.List.{flat_map}
use Rattle.std.proofs.lemmas.Bool.{and_parts, and_from, leb-true, eqb-true}
use Rattle.words.specs.Words.{word_at}
use Rattle.linear.specs.Equations.{Guarded, Acts, Leads}
use Rattle.linear.specs.Laws.{within, few_guard}
use Rattle.linear.specs.Layout.{counted, guard_words, acts_words, rate_words, entry_words, leads_words}
use Rattle.linear.specs.Reading.{then, word_in, words_from, words_in, count_in, list_in, guard_in, acts_in, rate_in, entry_of, also, entries_from, or_no_entries, leads_in}
use Rattle.linear.specs.declared.entry.Entry.{Entry}
use Rattle.linear.specs.declared.entry.Entry.TheVariants.{Reset, Keep, Take}
use Rattle.linear.specs.declared.fault.Place.{Place}
use Rattle.linear.specs.declared.fault.LinearFault.{LinearFault}
use Rattle.linear.specs.declared.fault.LinearFault.TheVariants.{Length, Limit}
use Rattle.linear.proofs.Shows.{Shows, shows_at, shows_join}
use Rattle.linear.proofs.Words.{length_words}

pub then_inv : {X Y : Type 0} (r : Result X LinearFault) (f : X → Result Y LinearFault) (y : Y) → then r f ≡ Ok y → (x : X) × ((r ≡ Ok x) × (f x ≡ Ok y))
then_inv (Ok x) f y h = (x, (refl, h))
then_inv (Err e) f y h = let z : ◌≡◌ {A = ℕ} 0 1 = cc in absurd (omega arith)

pub cond_inv : {Y : Type 0} (b : Bool) (r : Result Y LinearFault) (e : LinearFault) (y : Y) → cond b r (Err e) ≡ Ok y → (b ≡ true) × (r ≡ Ok y)
cond_inv true r e y h = (refl, h)
cond_inv false r e y h = let z : ◌≡◌ {A = ℕ} 0 1 = cc in absurd (omega arith)

pub ok_inv : {X : Type 0} (x y : X) → ◌≡◌ {A = Result X LinearFault} (Ok x) (Ok y) → x ≡ y
ok_inv x y e = cc

pub some_inv : {X : Type 0} (x y : X) → ◌≡◌ {A = Option X} (Some x) (Some y) → x ≡ y
some_inv x y e = cc

module _ (bs : List ℕ) where
  pub word_shown : (q : Place) (p w : ℕ) → word_in bs q p ≡ Ok w → (p + 2 ≤ length bs) × (word_at bs p ≡ w)
  word_shown q p w h =
      let i = cond_inv (leb (p + 2) (length bs)) (Ok (word_at bs p)) (Length q) w h in
      (leb-true (p + 2) (length bs) i.0, ok_inv (word_at bs p) w i.1)

  words_stand : (n p : ℕ) → p + 2 * n ≤ length bs → Shows bs p (words_from bs p n)
  words_stand zero p le = tt
  words_stand (suc n) p le = (omega arith, refl, words_stand n (p + 2) (omega arith))

  pub count_shown : (q : Place) (low high p n : ℕ) → count_in bs q low high p ≡ Ok n → (p + 2 ≤ length bs) × (word_at bs p ≡ n) × (within low high n ≡ true)
  count_shown q low high p n h =
      let i = then_inv (word_in bs q p) (λ m. cond (within low high m) (Ok m) (Err (Limit q))) n h in
      let w = word_shown q p i.0 i.1.0 in
      let t = cond_inv (within low high i.0) (Ok i.0) (Limit q) n i.1.1 in
      let same = ok_inv i.0 n t.1 in
      (w.0, w.1 ∙ same, ap (within low high) (sym same) ∙ t.0)

  pub list_shown : (q : Place) (high p : ℕ) (xs : List ℕ) → list_in bs q high p ≡ Ok xs → Shows bs p (counted xs) × (leb (length xs) high ≡ true)
  list_shown q high p xs h =
      let i = then_inv (count_in bs q 0 high p) (λ n. words_in bs q n (p + 2)) xs h in
      let n = i.0 in
      let c = count_shown q 0 high p n i.1.0 in
      let t = cond_inv (leb (p + 2 + 2 * n) (length bs)) (Ok (words_from bs (p + 2) n)) (Length q) xs i.1.1 in
      let same = ok_inv (words_from bs (p + 2) n) xs t.1 in
      let long : n ≡ length xs = sym (length_words bs (p + 2) n) ∙ ap length same in
      let stand = words_stand n (p + 2) (leb-true (p + 2 + 2 * n) (length bs) t.0) in
      let P : List ℕ → Type 0 = λ ws. Shows bs (p + 2) ws in
      ((c.0, c.1 ∙ long, subst P same stand), ap (λ m. leb m high) (sym long) ∙ (and_parts (leb 0 n) (leb n high) c.2).1)

  pub guard_shown : (q : Place) (p : ℕ) (g : Guarded) → guard_in bs q p ≡ Ok g → Shows bs p (guard_words g) × (few_guard g ≡ true)
  guard_shown q p g h =
      let i = then_inv (word_in bs q p) _ g h in
      let j = then_inv (list_in bs q 8 (p + 2)) _ g i.1.1 in
      let xs = j.0 in
      let k = then_inv (list_in bs q 8 (p + 4 + 2 * length xs)) _ g j.1.1 in
      let es = k.0 in
      let w = word_shown q p i.0 i.1.0 in
      let a = list_shown q 8 (p + 2) xs j.1.0 in
      let b = list_shown q 8 (p + 4 + 2 * length xs) es k.1.0 in
      let made : Guarded = record { counter = i.0; sums = xs; conditions = es } in
      let same = ok_inv made g k.1.1 in
      let shows : Shows bs p (guard_words made) = (w.0, w.1, shows_join bs (counted xs) (counted es) (p + 2) a.0 (shows_at bs (counted es) (p + 4 + 2 * length xs) (p + 2 + 2 * suc (length xs)) (omega arith) b.0)) in
      let P : Guarded → Type 0 = λ y. Shows bs p (guard_words y) × (few_guard y ≡ true) in
      subst P same (shows, and_from (leb (length xs) 8) (leb (length es) 8) a.1 b.1)

  pub acts_shown : (q : Place) (p : ℕ) (a : Acts) → acts_in bs q p ≡ Ok a → Shows bs p (acts_words a) × (leb (length a.arguments) 4 ≡ true)
  acts_shown q p a h =
      let i = then_inv (word_in bs q p) _ a h in
      let j = then_inv (list_in bs q 4 (p + 2)) _ a i.1.1 in
      let es = j.0 in
      let k = then_inv (word_in bs q (p + 4 + 2 * length es)) _ a j.1.1 in
      let l = then_inv (word_in bs q (p + 6 + 2 * length es)) _ a k.1.1 in
      let w = word_shown q p i.0 i.1.0 in
      let s = list_shown q 4 (p + 2) es j.1.0 in
      let x = word_shown q (p + 4 + 2 * length es) k.0 k.1.0 in
      let y = word_shown q (p + 6 + 2 * length es) l.0 l.1.0 in
      let made : Acts = record { action = i.0; arguments = es; variable = k.0; weight = l.0 } in
      let same = ok_inv made a l.1.1 in
      let r : ℕ = p + 2 + 2 * suc (length es) in
      let one : p + 4 + 2 * length es ≡ r = omega arith in
      let two : p + 6 + 2 * length es ≡ r + 2 = omega arith in
      let tail : Shows bs r (k.0 ∷ (l.0 ∷ [])) = (omega arith, sym (ap (word_at bs) one) ∙ x.1, (omega arith, sym (ap (word_at bs) two) ∙ y.1, tt)) in
      let shows : Shows bs p (acts_words made) = (w.0, w.1, shows_join bs (counted es) (k.0 ∷ (l.0 ∷ [])) (p + 2) s.0 tail) in
      let P : Acts → Type 0 = λ z. Shows bs p (acts_words z) × (leb (length z.arguments) 4 ≡ true) in
      subst P same (shows, s.1)

  pub rate_shown : (q : Place) (p r : ℕ) → rate_in bs q p ≡ Ok r → Shows bs p (rate_words r) × (◌≡◌ {A = Bool} true true)
  rate_shown q p r h = let w = word_shown q p r h in ((w.0, w.1, tt), refl)

  -- the two words of an entry
  entry_by : (k e : ℕ) (a b c d : Bool) → eqb k 0 ≡ a → eqb e 0 ≡ b → eqb k 1 ≡ c → eqb k 2 ≡ d → (y : Entry) → cond a (cond b (Some Reset) None) (cond c (cond b (Some Keep) None) (cond d (Some (Take e)) None)) ≡ Some y → entry_words y ≡ k ∷ (e ∷ [])
  entry_by k e true true c d k0 e0 k1 k2 y h =
      let x = eqb-true k 0 k0 in
      let z = eqb-true e 0 e0 in
      ap entry_words (sym (some_inv Reset y h)) ∙ (cc)
  entry_by k e true false c d k0 e0 k1 k2 y h = let z : ◌≡◌ {A = ℕ} 0 1 = cc in absurd (omega arith)
  entry_by k e false true true d k0 e0 k1 k2 y h =
      let x = eqb-true k 1 k1 in
      let z = eqb-true e 0 e0 in
      ap entry_words (sym (some_inv Keep y h)) ∙ (cc)
  entry_by k e false false true d k0 e0 k1 k2 y h = let z : ◌≡◌ {A = ℕ} 0 1 = cc in absurd (omega arith)
  entry_by k e false b false true k0 e0 k1 k2 y h =
      let x = eqb-true k 2 k2 in
      ap entry_words (sym (some_inv (Take e) y h)) ∙ (cc)
  entry_by k e false b false false k0 e0 k1 k2 y h = let z : ◌≡◌ {A = ℕ} 0 1 = cc in absurd (omega arith)

  entry_is : (k e : ℕ) (y : Entry) → entry_of k e ≡ Some y → entry_words y ≡ k ∷ (e ∷ [])
  entry_is k e y h = entry_by k e (eqb k 0) (eqb e 0) (eqb k 1) (eqb k 2) refl refl refl refl y h

  also_inv : (o : Option Entry) (m : Option (List Entry)) (ys : List Entry) → also o m ≡ Some ys → (e : Entry) × ((es : List Entry) × ((o ≡ Some e) × ((m ≡ Some es) × (e ∷ es ≡ ys))))
  also_inv None m ys h = let z : ◌≡◌ {A = ℕ} 0 1 = cc in absurd (omega arith)
  also_inv (Some e) None ys h = let z : ◌≡◌ {A = ℕ} 0 1 = cc in absurd (omega arith)
  also_inv (Some e) (Some es) ys h = (e, (es, (refl, (refl, some_inv (e ∷ es) ys h))))

  pub entries_shown : (n p : ℕ) (es : List Entry) → p + 4 * n ≤ length bs → entries_from bs p n ≡ Some es → Shows bs p (flat_map entry_words es) × (length es ≡ n)
  entries_shown zero p es le h =
      let same = some_inv [] es h in
      let P : List Entry → Type 0 = λ ys. Shows bs p (flat_map entry_words ys) × (length ys ≡ 0) in
      subst P same (tt, refl)
  entries_shown (suc n) p es le h =
      let i = also_inv (entry_of (word_at bs p) (word_at bs (p + 2))) (entries_from bs (p + 4) n) es h in
      let e = i.0 in
      let ys = i.1.0 in
      let rest = entries_shown n (p + 4) ys (omega arith) i.1.1.1.0 in
      let words = entry_is (word_at bs p) (word_at bs (p + 2)) e i.1.1.0 in
      let P : List ℕ → Type 0 = λ ws. Shows bs p (ws ++ flat_map entry_words ys) in
      let four : p + 4 ≡ p + 2 + 2 = omega arith in
      let here : Shows bs p (word_at bs p ∷ (word_at bs (p + 2) ∷ flat_map entry_words ys)) = (omega arith, refl, (omega arith, refl, shows_at bs (flat_map entry_words ys) (p + 4) (p + 2 + 2) four rest.0)) in
      let Q : List Entry → Type 0 = λ zs. Shows bs p (flat_map entry_words zs) × (length zs ≡ suc n) in
      subst Q i.1.1.1.1 (subst P (sym words) here, ap suc rest.1)

  -- where there is an entry for each variable, each is one
  entries_there : (n p : ℕ) (o : Option (List Entry)) → entries_from bs p n ≡ o → length (or_no_entries o) ≡ n → entries_from bs p n ≡ Some (or_no_entries o)
  entries_there n p (Some es) is long = is
  entries_there zero p None is long = is ∙ (let z : ◌≡◌ {A = ℕ} 0 1 = cc in absurd (omega arith))
  entries_there (suc n) p None is long = absurd (omega arith)

  pub leads_shown : (q : Place) (v p : ℕ) (t : Leads) → leads_in bs q v p ≡ Ok t → length t.entries ≡ v → Shows bs p (leads_words t)
  leads_shown q v p t h all_named =
      let i = then_inv (word_in bs q p) _ t h in
      let w = word_shown q p i.0 i.1.0 in
      let o = entries_from bs (p + 2) v in
      let made : Leads = record { counter = i.0; entries = or_no_entries o } in
      let k = cond_inv (leb (p + 2 + 4 * v) (length bs)) (Ok made) (Length q) t i.1.1 in
      let same = ok_inv made t k.1 in
      let long : length (or_no_entries o) ≡ v = ap (λ (y : Leads). length y.entries) same ∙ all_named in
      let e = entries_shown v (p + 2) (or_no_entries o) (leb-true (p + 2 + 4 * v) (length bs) k.0) (entries_there v (p + 2) o refl long) in
      let P : Leads → Type 0 = λ y. Shows bs p (leads_words y) in
      subst P same (w.0, w.1, e.0)

pub length_entries : (es : List Entry) → length (flat_map entry_words es) ≡ 2 * length es
length_entries [] = refl
length_entries (Reset ∷ es) = let e = length_entries es in omega arith
length_entries (Keep ∷ es) = let e = length_entries es in omega arith
length_entries (Take x ∷ es) = let e = length_entries es in omega arith
