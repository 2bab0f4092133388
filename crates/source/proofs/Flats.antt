-- What the nodes of an accepted model file keep, as its flat model has them.
use Rattle.std.proofs.Common.{◌≡◌, ℕ, zero, suc, ◌+◌, ◌<◌, ◌≤◌, true, cond, ◌&&◌, ltb, leb, List, map, length, is_ok, Ok, Err, Result, sym, refl, ap, subst, add-one, arith}
use Rattle.std.specs.List.{range_with_len}
use Rattle.std.proofs.lemmas.List.FromFn.{length-map-range_with_len}
use Rattle.std.proofs.lemmas.Bool.{both_ways, and_parts, leb-true}
use Rattle.words.specs.Headers.{header_of}
use Rattle.words.specs.Words.{word_at}
use Rattle.model_file.specs.declared.fault.ModelFault.{ModelFault}
use Rattle.model_file.specs.declared.fault.ModelFault.TheVariants.{Cut, Limit}
use Rattle.model_file.specs.declared.layout.Layout.{Layout}
use Rattle.model_file.specs.Faults.{or_fault}
use Rattle.model_file.specs.Fields.{node_count}
use Rattle.model_file.specs.Layouts.{layout_of}
use Rattle.model_file.specs.Sections.{start_fault, sections_fault, sectioned}
use Rattle.model_file.proofs.Kept.{and_then_ok, unless_ok, when_ok}
use Rattle.model_rules.specs.Shapes.{Shape}
use Rattle.model_rules.specs.declared.shape.Shape.TheVariants.{Call, Condition, Choice, Sum, Action, Delay}
use Rattle.model_rules.specs.Rules.{ruled}
use Rattle.model_rules.specs.Sound.{Soundly, Names}
use Rattle.model_rules.proofs.Decoded.{shape_is}
use Rattle.model_rules.proofs.Held.{rules_held}
use Rattle.model_rules.proofs.Ruled.{soundly}
use Rattle.model.specs.Accept.{judged}
use Rattle.model.specs.Flat.{flat, node_of, or_delay}
use Rattle.source.specs.Nodes.{Rises, RisesFrom}

ok_is : (r : Result (Unit {0}) ModelFault) → is_ok r ≡ true → r ≡ Ok tt
ok_is (Ok x) h = refl
ok_is (Err e) h = absurd (both_ways _ refl h)

module _ (bs : List ℕ) (lawful : is_ok (judged bs) ≡ true) where
  abbrev l : Layout
  l = layout_of bs

  pub sound : Soundly bs l
  sound = soundly bs l (rules_held bs l (and_then_ok (sectioned bs) (λ _. ruled bs) (ok_is (judged bs) lawful)).2)

  sections : sections_fault bs l ≡ Ok tt
  sections = (and_then_ok (or_fault (header_of bs)) (λ _. sections_fault bs l) (and_then_ok (sectioned bs) (λ _. ruled bs) (ok_is (judged bs) lawful)).1).2

  -- a section, as its count and its records make it
  abbrev section : ℕ → ℕ → ℕ → ℕ → Result (Unit {0}) ModelFault → Result (Unit {0}) ModelFault
  section i fewest most p records =
      cond (ltb (length bs) (p + 2)) (Err (Cut i 0)) (cond (leb fewest (word_at bs p) && leb (word_at bs p) most) records (Err (Limit i 0)))

  counted : (i fewest most p : ℕ) (records : Result (Unit {0}) ModelFault) {x : Unit {0}} → section i fewest most p records ≡ Ok x → word_at bs p ≤ most
  counted i fewest most p records h =
      let one = unless_ok (ltb (length bs) (p + 2)) (cond (leb fewest (word_at bs p) && leb (word_at bs p) most) records (Err (Limit i 0))) (Cut i 0) h in
      let two = when_ok (leb fewest (word_at bs p) && leb (word_at bs p) most) records (Limit i 0) one.1 in
      leb-true (word_at bs p) most (and_parts (leb fewest (word_at bs p)) (leb (word_at bs p) most) two.0).1

  pub few_nodes : node_count bs l ≤ 256
  few_nodes =
      let one = and_then_ok (section 1 0 16 5 _) _ sections in
      let two = and_then_ok (section 2 1 16 l.processes _) _ one.2 in
      let three = and_then_ok (start_fault bs l) _ two.2 in
      let four = and_then_ok (section 4 1 64 l.actions _) _ three.2 in
      let five = and_then_ok (section 5 1 256 l.nodes _) _ four.2 in
      counted 5 1 256 l.nodes _ five.1

  rises : (n : ℕ) (s : Shape) → Names bs l n s → Rises n s
  rises n (Call p f) h = tt
  rises n (Condition x c) h = h.0
  rises n (Choice x y) h = (h.0.0, h.1.0)
  rises n (Sum v c) h = h.1.0
  rises n (Action a f v w c) h = h.3.0
  rises n (Delay r c) h = h.0

  rises_at : (n : ℕ) → n < node_count bs l → Rises n (node_of bs l n)
  rises_at n low =
      let k = sound.kinds n low in
      subst (Rises n) (sym (ap or_delay (shape_is bs l n k.0 k.1))) (rises n k.0 (sound.names n k.0 k.1))

  from : (i k : ℕ) → i + k ≡ node_count bs l → RisesFrom i (map (node_of bs l) (range_with_len i k))
  from i zero e = tt
  from i (suc k) e = (rises_at i (omega arith), subst (λ j. RisesFrom j (map (node_of bs l) (range_with_len (i + 1) k))) (add-one i) (from (i + 1) k (omega arith)))

  pub all_rise : RisesFrom 0 (flat bs).nodes
  all_rise = from 0 (node_count bs l) (omega arith)

  pub node_number : length (flat bs).nodes ≡ node_count bs l
  node_number = length-map-range_with_len (node_of bs l) 0 (node_count bs l)
