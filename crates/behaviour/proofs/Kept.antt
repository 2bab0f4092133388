-- A vector's transitions, summed, are those of the term that it stands for. Assumes nothing.
use Rattle.std.proofs.Common.{◌≡◌, ℕ, suc, ◌+◌, ◌-◌, ◌<◌, ◌≤◌, Bool, true, false, cond, not, ◌&&◌, eqb, List, [], ◌∷◌, ◌++◌, map, length, get_or, sum_by, sym, refl, ap, ◌∙◌, subst, ap₂, ⊎_elim, arith}
use mathlib.Core.Path.{fun_ext}
use lib.ListN.{get_or-eq_default}
use Rattle.std.specs.List.{range_with_len, flat_map, prefix_len, AllByRecursion}
use Rattle.std.proofs.ByRecursion.{All-weaker, All-map, All-append, all_kept_by, All-get_or}
use Rattle.std.proofs.lemmas.List.FromFn.{length-map-range_with_len}
use Rattle.std.proofs.lemmas.Bool.{eq-eqb, ne_eqb, eqb-true, cases_eq, cases_lt}
use Rattle.language.specs.Meanings.{Meaning, Lawful}
use Rattle.behaviour.proofs.Once.{Agrees, Scoped, Fitted}
use Rattle.model.specs.Trees.{Tree, call, when, choice, sum, action, delay}
use Rattle.source.specs.Models.{node, Process, Model, next, no_process, Term, param}
use Rattle.valuation.specs.Doings.{Does, acts, waits}
use Rattle.valuation.specs.Transitions.{Transition}
use Rattle.source.specs.Free.{named}
use Rattle.source.specs.Terms.{transitions}
use Rattle.source.specs.Places.{in_order, rest, below, places, place}
use Rattle.behaviour.specs.Ways.{Way, ways, add_sum, add_condition, numbered, all_ways}
use Rattle.linear.specs.Equations.{Summand, Vector}
use Rattle.behaviour.specs.Linearised.{summand, acts_in, rates_in, summands_of, equation_of, stands, transition_to, term_transitions, standing}
use Rattle.behaviour.specs.Vectors.{acting, transitions_by, transitions_in, fires}
use Rattle.source.specs.Sound.{Scope, adding, Calls, Here, Numbered, Sound}
use Rattle.behaviour.specs.Sets.{Shaped}
use Rattle.source.proofs.Totals.{total, sum_by_total, total_append, total_joined, total_map, total_all, total_cond, total_cond_out, total_in_order, total_plus}
use Rattle.behaviour.proofs.Scopes.{unbound, transitions_same}
use Rattle.behaviour.proofs.Expands.{expands}
use Rattle.behaviour.proofs.Lands.{Found, Lands, fires_along, way_does}
use Rattle.source.proofs.Mapped.{get_or_each}

pub all_left : {X : Type 0} (P : X → Type 0) (xs ys : List X) → AllByRecursion P (xs ++ ys) → AllByRecursion P xs
all_left P [] ys a = tt
all_left P (x ∷ xs) ys a = (a.0, all_left P xs ys a.1)

pub all_right : {X : Type 0} (P : X → Type 0) (xs ys : List X) → AllByRecursion P (xs ++ ys) → AllByRecursion P ys
all_right P [] ys a = a
all_right P (x ∷ xs) ys a = all_right P xs ys a.1

pub all_joined : {X Y : Type 0} (P : Y → Type 0) (g : X → List Y) (xs : List X) → AllByRecursion (λ x. AllByRecursion P (g x)) xs → AllByRecursion P (flat_map g xs)
all_joined P g [] a = tt
all_joined P g (x ∷ xs) a = All-append P (g x) (flat_map g xs) a.0 (all_joined P g xs a.1)

all_parts : {X Y : Type 0} (P : Y → Type 0) (g : X → List Y) (xs : List X) → AllByRecursion P (flat_map g xs) → AllByRecursion (λ x. AllByRecursion P (g x)) xs
all_parts P g [] a = tt
all_parts P g (x ∷ xs) a = (all_left P (g x) (flat_map g xs) a, all_parts P g xs (all_right P (g x) (flat_map g xs) a))

pub all_any : {X : Type 0} (P : X → Type 0) (xs : List X) → ((x : X) → P x) → AllByRecursion P xs
all_any P [] h = tt
all_any P (x ∷ xs) h = (h x, all_any P xs h)

all_both : {X : Type 0} (P Q : X → Type 0) (xs : List X) → AllByRecursion P xs → AllByRecursion Q xs → AllByRecursion (λ x. P x × Q x) xs
all_both P Q [] a b = tt
all_both P Q (x ∷ xs) a b = ((a.0, b.0), all_both P Q xs a.1 b.1)

pub all_in_order : {X : Type 0} (P : X → Type 0) (key : X → ℕ) (k : ℕ) (xs : List X) → AllByRecursion P xs → AllByRecursion P (in_order key k xs)
all_in_order P key k xs a = all_joined P _ (range_with_len 0 k) (all_any _ (range_with_len 0 k) (λ n. all_kept_by (λ x. eqb (key x) n) P xs a))

-- the trees of a list with node n
with_node : ℕ → List Tree → ℕ
with_node n xs = total (λ t. cond (eqb (node t) n) 1 0) xs

present : (xs : List Tree) → AllByRecursion (λ t. 0 < with_node (node t) xs) xs
unfolding with_node
present [] = tt
present (x ∷ xs) = (grind (arith, eq-eqb), All-weaker _ _ (λ t h. omega arith) xs (present xs))

first_found : (tree : ℕ → Tree) (d : Tree) (n : ℕ) (xs : List Tree) → AllByRecursion (λ t. tree (node t) ≡ t) xs → 0 < with_node n xs → get_or xs (prefix_len (λ t. not (eqb (node t) n)) xs) d ≡ tree n
unfolding with_node
first_found tree d n [] a h = absurd (omega arith)
first_found tree d n (x ∷ xs) a h = go (eqb (node x) n) refl (λ k. first_found tree d n xs a.1 k)
  where
    go : (b : Bool) → eqb (node x) n ≡ b → (0 < total (λ t. cond (eqb (node t) n) 1 0) xs → get_or xs (prefix_len (λ t. not (eqb (node t) n)) xs) d ≡ tree n)
        → get_or (x ∷ xs) (cond (not b) (1 + prefix_len (λ t. not (eqb (node t) n)) xs) 0) d ≡ tree n
    go true e ih = sym a.0 ∙ ap tree (eqb-true _ _ e)
    go false e ih =
        let k : 0 < cond false 1 0 + total (λ t. cond (eqb (node t) n) 1 0) xs = rw e at h in
        let q : 1 + prefix_len (λ t. not (eqb (node t) n)) xs ≡ suc (prefix_len (λ t. not (eqb (node t) n)) xs) = omega arith in
        ap (λ i. get_or (x ∷ xs) i d) q ∙ ih (omega arith)

pick_none : {X : Type 0} (h : X → ℕ) (c k : ℕ) (xs : List X) → c < k → total (λ z. cond (eqb z.0 c) (h z.1) 0) (numbered k xs) ≡ 0
pick_none h c k [] l = refl
pick_none h c k (x ∷ xs) l = let ih = pick_none h c (suc k) xs (omega arith) in let e = ne_eqb k c (λ q. omega (arith, q)) in rw e (omega arith)

pick : {X : Type 0} (h : X → ℕ) (d : X) (c k : ℕ) (xs : List X) → k ≤ c → c < k + length xs → total (λ z. cond (eqb z.0 c) (h z.1) 0) (numbered k xs) ≡ h (get_or xs (c - k) d)
pick h d c k [] l u = absurd (omega arith)
pick {X} h d c k (x ∷ xs) l u = ⊎_elim same (λ ne. other ne (pick h d c (suc k) xs (omega (arith, ne)) (omega arith))) (cases_eq k c)
  where
    same : k ≡ c → cond (eqb k c) (h x) 0 + total (λ z. cond (eqb z.0 c) (h z.1) 0) (numbered (suc k) xs) ≡ h (get_or (x ∷ xs) (c - k) d)
    same e =
        let z : c - k ≡ 0 = omega arith in let r = pick_none h c (suc k) xs (omega arith) in
        let q = eq-eqb k c e in rw (q, z) (omega arith)

    other : (k ≡ c → ⊥) → total (λ z. cond (eqb z.0 c) (h z.1) 0) (numbered (suc k) xs) ≡ h (get_or xs (c - suc k) d)
        → cond (eqb k c) (h x) 0 + total (λ z. cond (eqb z.0 c) (h z.1) 0) (numbered (suc k) xs) ≡ h (get_or (x ∷ xs) (c - k) d)
    other ne ih =
        let z : c - k ≡ suc (c - suc k) = omega (arith, ne) in
        let q = ne_eqb k c ne in rw (q, z) (omega arith)

leading_within : (n : ℕ) (xs : List Tree) → 0 < with_node n xs → prefix_len (λ t. not (eqb (node t) n)) xs < length xs
unfolding with_node
leading_within n [] h = absurd (omega arith)
leading_within n (x ∷ xs) h = go (eqb (node x) n) refl (λ k. leading_within n xs k)
  where
    go : (b : Bool) → eqb (node x) n ≡ b → (0 < total (λ t. cond (eqb (node t) n) 1 0) xs → prefix_len (λ t. not (eqb (node t) n)) xs < length xs)
        → cond (not b) (1 + prefix_len (λ t. not (eqb (node t) n)) xs) 0 < suc (length xs)
    go true e ih = omega arith
    go false e ih =
        let k : 0 < cond false 1 0 + total (λ t. cond (eqb (node t) n) 1 0) xs = rw e at h in
        let j = ih (omega arith) in omega arith

module _ (L : Meaning) (m : Model) (law : Lawful L) (fits : Fitted L m) (s : Sound m) where
  -- the places, before they are sorted
  unfoldable pub raw : List Tree
  raw = flat_map (λ q. q.body ∷ below q.body) m.processes

  -- What is known of a place: its scope, its calls and numbers, and that the places below it are found.
  abbrev pub Good : (Tree → Type 0) → Tree → Type 0
  Good R t = ((S : Scope) × Scoped L S t) × Calls m t × Numbered m s.tree t × AllByRecursion R (below t)

  pub here : (t : Tree) → Numbered m s.tree t → Here m s.tree t
  here (call n p es) h = h
  here (when n e t) h = h.0
  here (choice n l r) h = h.0
  here (sum n x t) h = h.0
  here (action n a es x w t) h = h.0
  here (delay n r t) h = h.0

  at_rest : (R P : Tree → Type 0) (t : Tree) → P t → AllByRecursion P (rest (next t))
  at_rest R P (call n p es) h = tt
  at_rest R P (when n e t) h = (h, tt)
  at_rest R P (choice n l r) h = (h, tt)
  at_rest R P (sum n x t) h = (h, tt)
  at_rest R P (action n a es x w t) h = (h, tt)
  at_rest R P (delay n r t) h = (h, tt)

  good_below : (R : Tree → Type 0) (S : Scope) (t : Tree) → Scoped L S t → Calls m t → Numbered m s.tree t → AllByRecursion R (below t) → AllByRecursion (Good R) (below t)
  good_below R S (call n p es) c k h a = tt
  good_below R S (when n e t) c k h a = good_below R S t c.1 k h.1 a
  good_below R S (choice n l r) c k h a =
      All-append _ (below l) (below r) (good_below R S l c.0 k.0 h.1 (all_left R (below l) (below r) a)) (good_below R S r c.1 k.1 h.2 (all_right R (below l) (below r) a))
  good_below R S (sum n x t) c k h a = good_below R (adding x S) t c.1 k h.1 a
  good_below R S (action n b es x w t) c k h a =
      let z = all_right R (rest (next t)) (below t) a in
      All-append _ (rest (next t)) (below t) (at_rest R (Good R) t ((adding x S, c.3), k, h.1, z)) (good_below R (adding x S) t c.3 k h.1 z)
  good_below R S (delay n r t) c k h a =
      let z = all_right R (rest (next t)) (below t) a in
      All-append _ (rest (next t)) (below t) (at_rest R (Good R) t ((S, c.1), k, h.1, z)) (good_below R S t c.1 k h.1 z)

  good_raw : (R : Tree → Type 0) → AllByRecursion R raw → AllByRecursion (Good R) raw
  unfolding raw
  good_raw R a = all_joined (Good R) (λ q. q.body ∷ below q.body) m.processes (go m.processes fits s.called s.numbered (all_parts R (λ q. q.body ∷ below q.body) m.processes a))
    where
      go : (qs : List Process) → AllByRecursion (λ q. Scoped L (param q) q.body) qs → AllByRecursion (λ q. Calls m q.body) qs → AllByRecursion (λ q. Numbered m s.tree q.body) qs
          → AllByRecursion (λ q. AllByRecursion R (q.body ∷ below q.body)) qs → AllByRecursion (λ q. AllByRecursion (Good R) (q.body ∷ below q.body)) qs
      go [] f c n b = tt
      go (q ∷ qs) f c n b =
          ((((param q, f.0), c.0, n.0, b.0.1), good_below R (param q) q.body f.0 c.0 n.0 b.0.1), go qs f.1 c.1 n.1 b.1)

  -- the rest of this file uses `All (λ t. Unit) raw` first, to know that the places are numbered, then `Found`
  pub raw_here : AllByRecursion (Here m s.tree) raw
  raw_here = All-weaker (Good (λ t. Unit {0})) (Here m s.tree) (λ t g. here t g.2) raw (good_raw (λ t. Unit {0}) (all_any _ raw (λ t. tt)))

  places_found : AllByRecursion (Found L m) raw
  unfolding raw with_node
  places_found = All-weaker _ _ go raw (all_both _ _ raw raw_here (present raw))
    where
      go : (t : Tree) → Here m s.tree t × (0 < with_node (node t) raw) → Found L m t
      go t h =
          let k = prefix_len (λ u. not (eqb (node u) (node t))) (places m) in
          let e : suc k - 1 ≡ k = omega arith in
          let there : 0 < with_node (node t) (places m) =
          subst (λ n. 0 < n) (sym (total_in_order (λ u. cond (eqb (node u) (node t)) 1 0) node m.nodes raw (All-weaker _ _ (λ u g. g.0) raw raw_here))) h.1 in (
            ap (λ i. get_or (places m) i (call 0 0 [])) e
                ∙ first_found s.tree (call 0 0 []) (node t) (places m) (all_in_order _ node m.nodes raw (All-weaker _ _ (λ u g. g.1) raw raw_here)) there
                ∙ h.0.1,
            leading_within (node t) (places m) there,
          )

  pub good : AllByRecursion (Good (Found L m)) (places m)
  unfolding raw
  good = all_in_order _ node m.nodes raw (good_raw (Found L m) places_found)

  pub found_again : AllByRecursion (Found L m) (places m)
  unfolding raw
  found_again = all_in_order _ node m.nodes raw places_found

  leaves_below : (t : Tree) → Numbered m s.tree t → AllByRecursion (λ y. y.leaf < m.nodes) (ways t)
  leaves_below (call n p es) h = tt
  leaves_below (when n e t) h = All-map (λ y. y.leaf < m.nodes) (add_condition e) (ways t) (leaves_below t h.1)
  leaves_below (choice n l r) h = All-append _ (ways l) (ways r) (leaves_below l h.1) (leaves_below r h.2)
  leaves_below (sum n x t) h = All-map (λ y. y.leaf < m.nodes) (add_sum x) (ways t) (leaves_below t h.1)
  leaves_below (action n a es x w t) h = (h.0.0, tt)
  leaves_below (delay n r t) h = (h.0.0, tt)

  pub bodies_found : AllByRecursion (λ q. Found L m q.body) m.processes
  unfolding raw
  bodies_found = All-weaker _ _ (λ q a. a.0) m.processes (all_parts (Found L m) (λ q. q.body ∷ below q.body) m.processes places_found)

  pub next_lands : (t : Tree) → Calls m t → AllByRecursion (Found L m) (rest (next t)) → Lands L m (next t)
  next_lands (call n p es) k a = All-get_or (λ q. Found L m q.body) m.processes p no_process k.0 bodies_found
  next_lands (when n e t) k a = a.0
  next_lands (choice n l r) k a = a.0
  next_lands (sum n x t) k a = a.0
  next_lands (action n b es x w t) k a = a.0
  next_lands (delay n r t) k a = a.0

  pub ways_land : (t : Tree) → Calls m t → AllByRecursion (Found L m) (below t) → AllByRecursion (λ y. Lands L m y.then) (ways t)
  ways_land (call n p es) k a = tt
  ways_land (when n e t) k a = All-map (λ y. Lands L m y.then) (add_condition e) (ways t) (ways_land t k a)
  ways_land (choice n l r) k a =
      All-append _ (ways l) (ways r) (ways_land l k.0 (all_left _ (below l) (below r) a)) (ways_land r k.1 (all_right _ (below l) (below r) a))
  ways_land (sum n x t) k a = All-map (λ y. Lands L m y.then) (add_sum x) (ways t) (ways_land t k a)
  ways_land (action n b es x w t) k a = (next_lands t k (all_left _ (rest (next t)) (below t) a), tt)
  ways_land (delay n r t) k a = (next_lands t k (all_left _ (rest (next t)) (below t) a), tt)

  keyed : (k : ℕ) (ts : List Tree) → AllByRecursion (Good (Found L m)) ts → AllByRecursion (λ (z : ℕ × Way). z.1.leaf < m.nodes) (flat_map (λ (z : ℕ × Tree). map {B = ℕ × Way} (λ y. (z.0, y)) (ways z.1)) (numbered k ts))
  keyed k [] a = tt
  keyed k (t ∷ ts) a = All-append _ _ _ (All-map (λ (z : ℕ × Way). z.1.leaf < m.nodes) (λ y. (k, y)) (ways t) (leaves_below t a.0.2)) (keyed (suc k) ts a.1)

  module _ (f : Transition Term → ℕ) (v : Vector) (inset : Shaped m v) where
    F : Transition Vector → ℕ
    F st = f (transition_to (stands L m) st)

    of_place : Tree → ℕ
    of_place t = total (λ y. total F (way_does L m y y.doing v.values)) (ways t)

    -- what a way gives where it does k
    of_way : ℕ × Way → Does → ℕ
    of_way z k = cond (eqb z.0 v.counter) (total F (way_does L m z.1 k v.values)) 0

    part : {D : Type 0} (doing : D → Does) (pick : Does → List D)
        → total F (transitions_by L m.sizes doing (summands_of L m pick (all_ways m)) v) ≡ total (λ (z : ℕ × Way). total (λ d. of_way z (doing d)) (pick z.1.doing)) (all_ways m)
    unfolding F of_way
    part {D} doing pick =
        total_joined F (λ (u : Summand D). cond (eqb u.when.counter v.counter) (fires L m.sizes doing u v.values) []) (summands_of L m pick (all_ways m))
        ∙ ap (λ (g : Summand D → ℕ). total g (summands_of L m pick (all_ways m))) (fun_ext (λ u. total_cond F (eqb u.when.counter v.counter) (fires L m.sizes doing u v.values)))
        ∙ total_joined (λ (u : Summand D). cond (eqb u.when.counter v.counter) (total F (fires L m.sizes doing u v.values)) 0) (λ (z : ℕ × Way). map (summand L m z) (pick z.1.doing)) (all_ways m)
        ∙ ap (λ (g : ℕ × Way → ℕ). total g (all_ways m)) (fun_ext (λ z. total_map (λ (u : Summand D). cond (eqb u.when.counter v.counter) (total F (fires L m.sizes doing u v.values)) 0) (summand L m z) (pick z.1.doing)))

    -- a way either acts or waits
    either : (h : Does → ℕ) (k : Does) → total (λ d. h (acting d)) (acts_in k) + total (λ r. h (waits r)) (rates_in k) ≡ h k
    either h (acts a es x w) = omega arith
    either h (waits r) = omega arith

    by_places : total f (standing L m v) ≡ total (λ z. cond (eqb z.0 v.counter) (of_place z.1) 0) (numbered 1 (places m))
    unfolding F of_place of_way
    by_places =
        total_map f (transition_to (stands L m)) (transitions_in L (equation_of L m) v)
        ∙ total_append F (transitions_by L m.sizes acting (summands_of L m acts_in (all_ways m)) v) (transitions_by L m.sizes waits (summands_of L m rates_in (all_ways m)) v)
        ∙ ap₂ ◌+◌ (part acting acts_in) (part waits rates_in)
        ∙ sym (total_plus (λ (z : ℕ × Way). total (λ d. of_way z (acting d)) (acts_in z.1.doing)) (λ (z : ℕ × Way). total (λ r. of_way z (waits r)) (rates_in z.1.doing)) (all_ways m))
        ∙ ap (λ (g : ℕ × Way → ℕ). total g (all_ways m)) (fun_ext (λ z. either (of_way z) z.1.doing))
        ∙ total_in_order (λ (z : ℕ × Way). of_way z z.1.doing) (λ z. z.1.leaf) m.nodes (flat_map (λ (z : ℕ × Tree). map {B = ℕ × Way} (λ y. (z.0, y)) (ways z.1)) (numbered 1 (places m))) (keyed 1 (places m) good)
        ∙ total_joined (λ (z : ℕ × Way). of_way z z.1.doing) (λ (z : ℕ × Tree). map {B = ℕ × Way} (λ y. (z.0, y)) (ways z.1)) (numbered 1 (places m))
        ∙ ap (λ g. total g (numbered 1 (places m)))
        (fun_ext (λ z. total_map (λ (z : ℕ × Way). of_way z z.1.doing) (λ y. (z.0, y)) (ways z.1) ∙ total_cond_out (eqb z.0 v.counter) (λ y. total F (way_does L m y y.doing v.values)) (ways z.1)))

    pub kept : total f (term_transitions L m s.tree (stands L m v)) ≡ total f (standing L m v)
    unfolding F of_place
    kept =
        ap (λ t. total f (transitions L m t (stands L m v).values)) (here t g.2).1
        ∙ ap (total f) (transitions_same L law m g.0.0 t (stands L m v).values v.values g.0.1 g.1 (longs, agrees))
        ∙ expands L law m f g.0.0 t v.values g.0.1
        ∙ total_all _ _ (ways t) (All-weaker _ _ (λ y l. ap (total f) (sym (fires_along L m y v.values law l)) ∙ total_map f (transition_to (stands L m)) (way_does L m y y.doing v.values)) (ways t) (ways_land t g.1 g.3))
        ∙ sym (pick of_place (call 0 0 []) v.counter 1 (places m) inset.0 (omega (arith, inset.1)))
        ∙ sym by_places
      where
        t : Tree
        t = place m v.counter

        g : Good (Found L m) t
        g = All-get_or (Good (Found L m)) (places m) (v.counter - 1) (call 0 0 []) (omega (arith, inset.0, inset.1)) good

        longs : length (stands L m v).values ≡ length v.values
        longs = length-map-range_with_len _ 0 (length m.sizes) ∙ sym inset.2

        agrees : (x : ℕ) → g.0.0 x ≡ true → named L t x ≡ true → Agrees (stands L m v).values v.values x
        agrees x i n = ⊎_elim inside outside (cases_lt x (length m.sizes))
          where
            inside : x < length m.sizes → Agrees (stands L m v).values v.values x
            inside l = get_or_each m _ x 0 l ∙ ap₂ (λ a b. cond (a && not b) (get_or v.values x 0) 0) n (unbound L g.0.0 t x g.0.1 i)

            outside : length m.sizes ≤ x → Agrees (stands L m v).values v.values x
            outside l = get_or-eq_default (stands L m v).values 0 (omega (arith, longs, inset.2)) ∙ sym (get_or-eq_default v.values 0 (omega (arith, inset.2)))

  pub counted : (f : Transition Term → ℕ) (v : Vector) → Shaped m v → sum_by f (term_transitions L m s.tree (stands L m v)) ≡ sum_by f (standing L m v)
  counted f v i = sum_by_total f _ ∙ kept f v i ∙ sym (sum_by_total f _)
