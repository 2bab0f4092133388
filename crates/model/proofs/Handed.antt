-- A node that is handed out is that of the flat model. Assumes that each byte is below 256, and that the file is accepted.
use Rattle.std.proofs.Common.{◌≡◌, ℕ, ◌<◌, ◌≤◌, true, is_ok, List, get_or, Some, None, Option, sym, refl, ap, ◌∙◌}
use Rattle.model_file.specs.declared.layout.Layout.{Layout}
use Rattle.model_file.specs.Fields.{process_count, number_of, action_count, arity_of, node_count}
use Rattle.model_file.specs.Layouts.{layout_of}
use Rattle.model_file.proofs.Located.{laid}
use Rattle.model_rules.specs.Shapes.{Shape, shape_at}
use Rattle.model_rules.specs.declared.shape.Shape.TheVariants as shape
use Rattle.model_rules.specs.Sound.{Names}
use Rattle.model_rules.proofs.Decoded.{shape_is}
use Rattle.model.specs.declared.node.Process.{Process}
use Rattle.words.specs.Words.{bytes_of}
use Rattle.model.specs.Accept.{judged}
use Rattle.model.specs.Flat.{or_delay, process_of, node_of, flat}
use Rattle.model.specs.Nodes.{call, action, no_process, call_arity, action_arity, arguments_from, value_in, node_in, argument_bytes, value_at}
use Rattle.model.specs.WellFormed.{WellFormed}
use Rattle.model.proofs.Judged.{lawful_well}
use Rattle.model.proofs.Numbered.{numbered_at, numbered_nth, numbered_none}
use Rattle.model.proofs.Written.{argument_bytes_lem}

module _ (bs : List ℕ) (low : (i : ℕ) → get_or bs i 0 < 256) (lawful : is_ok (judged bs) ≡ true) where
  m : WellFormed bs
  m = lawful_well bs low lawful

  abbrev l : Layout
  l = layout_of bs

  call_arity_lem : (p : ℕ) → p < process_count bs l → number_of bs l p ≡ call_arity (flat bs) p
  call_arity_lem p there = ap (λ (q : Process). q.number) (numbered_at (process_of bs l) (process_count bs l) p no_process there)

  action_arity_lem : (a : ℕ) → a < action_count bs l → arity_of bs l a ≡ action_arity (flat bs) a
  action_arity_lem a there = numbered_at (arity_of bs l) (action_count bs l) a 0 there

  run : (f k : ℕ) → argument_bytes bs l f k ≡ bytes_of (arguments_from (flat bs) f k)
  run f k = sym (argument_bytes_lem bs low l (laid bs) m.limits m.sound.kinds f k)

  value_same : (n : ℕ) (s : Shape) → Names bs l n s → value_at bs l (Some s) ≡ value_in (flat bs) (Some s)
  value_same n (shape.Call p f) names = ap (λ es. Some (call p es)) (run f (number_of bs l p) ∙ ap (λ k. bytes_of (arguments_from (flat bs) f k)) (call_arity_lem p names.0))
  value_same n (shape.Condition x c) names = refl
  value_same n (shape.Choice x y) names = refl
  value_same n (shape.Sum v c) names = refl
  value_same n (shape.Action a f v w c) names = ap (λ es. Some (action a es v w c)) (run f (arity_of bs l a) ∙ ap (λ k. bytes_of (arguments_from (flat bs) f k)) (action_arity_lem a names.0))
  value_same n (shape.Delay r c) names = refl

  node_there : (n : ℕ) → n < node_count bs l → value_at bs l (shape_at bs l n) ≡ node_in (flat bs) n
  node_there n there =
      let k = m.sound.kinds n there in
      let s = k.0 in
      let is = shape_is bs l n s k.1 in
      ap (value_at bs l) is ∙ value_same n s (m.sound.names n s k.1)
      ∙ ap (value_in (flat bs)) (sym (ap (λ o. Some (or_delay o)) is) ∙ numbered_nth (node_of bs l) (node_count bs l) n there)

  -- whatever its record decodes to
  pub node_shaped : (n : ℕ) (o : Option Shape) → n < node_count bs l → o ≡ shape_at bs l n → value_at bs l o ≡ node_in (flat bs) n
  node_shaped n o there is = ap (value_at bs l) is ∙ node_there n there

  pub node_past : (n : ℕ) → node_count bs l ≤ n → None ≡ node_in (flat bs) n
  node_past n past = ap (value_in (flat bs)) (numbered_none (node_of bs l) (node_count bs l) n past)
