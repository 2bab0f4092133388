-- The summands of an accepted model, node by node. Assumes nothing.
use Rattle.std.proofs.Common.{◌≡◌, ℕ, List, [], ◌∷◌, ◌++◌, map, replicate, Some, Option, sym, refl, ap, ◌∙◌, ap₂, arith}
use Rattle.std.specs.List.{range_with_len, flat_map, AllByRecursion}
use Rattle.std.proofs.lemmas.List.{append_assoc}
use Rattle.language.specs.Meanings.{Meaning}
use Rattle.valuation.specs.Doings.{Does}
use Rattle.linear.specs.Equations.{Guarded, Acts, Leads, Summand}
use Rattle.model_file.specs.Fields.{node_count}
use Rattle.model_file.specs.Layouts.{layout_of}
use Rattle.model_rules.specs.Shapes.{Shape}
use Rattle.model_rules.specs.declared.shape.Shape.TheVariants as shape
use Rattle.model_rules.specs.Sound as rules
use Rattle.model.specs.Flat.{Flat, flat}
use Rattle.model.specs.Nodes.{node_in, value_in, arguments_from, action_arity}
use Rattle.model.specs.Trees.{Tree, planted, tree_of}
use Rattle.model.specs.WellFormed.{WellFormed}
use Rattle.source.specs.Models.{Model, next, model_of}
use Rattle.source.specs.Places.{counter}
use Rattle.source.proofs.Enumerate.{all_counting}
use Rattle.source.proofs.Words.{words_back}
use Rattle.behaviour.specs.Linearised.{acts_in, rates_in, leads_to, summand, summands_of, equation_of}
use Rattle.behaviour.specs.Passing.{place_itself, above, actions_at, delays_at}
use Rattle.behaviour.specs.Ways.{Way, all_ways}
use Rattle.behaviour.specs.Accepted.{ByNodes}
use Rattle.behaviour.proofs.Accepted.{accepted_sound, accepted_once, at_node_lem, nodes_counted}
use Rattle.behaviour.proofs.Grown.{sound}
use Rattle.behaviour.proofs.ByNode.{by_node, doing, going}
use Rattle.behaviour.proofs.Nodewise.{all_pass}
use Rattle.behaviour.proofs.Placed.{is_leaf}

joined_joined : {X Y Z : Type 0} (h : Y → List Z) (f : X → List Y) (xs : List X) → flat_map h (flat_map f xs) ≡ flat_map (λ x. flat_map h (f x)) xs
joined_joined h f [] = refl
joined_joined {X} {Y} {Z} h f (x ∷ xs) = joined_append (f x) (flat_map f xs) ∙ ap {B = List Z} (λ r. flat_map h (f x) ++ r) (joined_joined h f xs)
  where
    joined_append : (ys zs : List Y) → flat_map h (ys ++ zs) ≡ flat_map h ys ++ flat_map h zs
    joined_append [] zs = refl
    joined_append (y ∷ ys) zs = ap {B = List Z} (λ r. h y ++ r) (joined_append ys zs) ∙ sym (append_assoc (h y) (flat_map h ys) (flat_map h zs))

joined_same : {X Z : Type 0} (f g : X → List Z) (xs : List X) → AllByRecursion (λ x. f x ≡ g x) xs → flat_map f xs ≡ flat_map g xs
joined_same f g [] a = refl
joined_same f g (x ∷ xs) a = ap₂ {C = List _} ◌++◌ a.0 (joined_same f g xs a.1)

-- the way to a node, if its tree is that of an action or a delay
leaf_ways : Guarded → ℕ → Tree → List (ℕ × Way)
leaf_ways u i t = replicate (is_leaf t) (u.counter, record { leaf = i; sums = u.sums; conditions = u.conditions; doing = doing t; then = going t })

module _ (L : Meaning) (bs : List ℕ) (w : WellFormed bs) where
  abbrev g : Flat
  g = flat bs

  abbrev m : Model
  m = model_of (flat bs)

  abbrev K : ℕ
  K = node_count bs (layout_of bs)

  abbrev leads : ℕ → Leads
  leads c = leads_to L (model_of (flat bs)) (next (tree_of (flat bs) c))

  act_summand : Guarded → ℕ → List ℕ → ℕ → ℕ → ℕ → Summand Acts
  act_summand u a es v x c = record { when = u; does = record { action = a; arguments = es; variable = v; weight = x }; leads = leads c }

  acts_at : (i : ℕ) (u : Guarded) (s : Shape) → summands_of L m acts_in (leaf_ways u i (planted g i s (tree_of g))) ≡ actions_at u leads (value_in g (Some s))
  unfolding leaf_ways act_summand
  acts_at i u (shape.Call p f) = refl
  acts_at i u (shape.Condition x c) = refl
  acts_at i u (shape.Choice x y) = refl
  acts_at i u (shape.Sum v c) = refl
  acts_at i u (shape.Action a f v x c) = ap {B = List (Summand Acts)} (λ es. act_summand u a es v x c ∷ []) (sym (words_back (arguments_from g f (action_arity g a))))
  acts_at i u (shape.Delay r c) = refl

  rates_at : (i : ℕ) (u : Guarded) (s : Shape) → summands_of L m rates_in (leaf_ways u i (planted g i s (tree_of g))) ≡ delays_at u leads (value_in g (Some s))
  unfolding leaf_ways
  rates_at i u (shape.Call p f) = refl
  rates_at i u (shape.Condition x c) = refl
  rates_at i u (shape.Choice x y) = refl
  rates_at i u (shape.Sum v c) = refl
  rates_at i u (shape.Action a f v x c) = refl
  rates_at i u (shape.Delay r c) = refl

  module _ (start : ℕ → Guarded) (starts : (c : ℕ) → rules.Resting bs (layout_of bs) c → start c ≡ place_itself (counter (model_of (flat bs)) c)) where
    abbrev up : ℕ → Guarded
    up = above (node_in (flat bs)) start

    all_ways_lem : all_ways m ≡ flat_map (λ i. leaf_ways (up i) i (tree_of g i)) (range_with_len 0 K)
    unfolding leaf_ways accepted_sound sound
    all_ways_lem =
        by_node m (accepted_sound bs w) (accepted_once bs w) up (all_pass bs w start starts)
        ∙ ap (λ k. flat_map (λ i. leaf_ways (up i) i (tree_of g i)) (range_with_len 0 k)) (nodes_counted bs w)

    each : {D : Type 0} (pick : Does → List D) (at : ℕ → Option _ → List (Summand D)) → ((i : ℕ) (s : Shape) → summands_of L m pick (leaf_ways (up i) i (planted g i s (tree_of g))) ≡ at i (value_in g (Some s)))
        → summands_of L m pick (all_ways m) ≡ flat_map (λ i. at i (node_in g i)) (range_with_len 0 K)
    each {D} pick at h =
        ap (summands_of L m pick) all_ways_lem
        ∙ joined_joined (λ (z : ℕ × Way). map (summand L m z) (pick z.1.doing)) (λ i. leaf_ways (up i) i (tree_of g i)) (range_with_len 0 K)
        ∙ joined_same _ _ (range_with_len 0 K) (all_counting _ 0 K K (omega arith) (λ i low.
        let z = w.sound.kinds i low in
        let a = at_node_lem bs w i z.0 z.1 in
        ap (λ t. summands_of L m pick (leaf_ways (up i) i t)) a.tree ∙ h i z.0 ∙ ap (at i) (sym a.there)))

    pub actions_by_node : (equation_of L m).actions ≡ flat_map (λ i. actions_at (up i) leads (node_in g i)) (range_with_len 0 K)
    actions_by_node = each acts_in (λ i. actions_at (up i) leads) (λ i s. acts_at i (up i) s)

    pub delays_by_node : (equation_of L m).delays ≡ flat_map (λ i. delays_at (up i) leads (node_in g i)) (range_with_len 0 K)
    delays_by_node = each rates_in (λ i. delays_at (up i) leads) (λ i s. rates_at i (up i) s)

pub by_nodes : ByNodes
by_nodes L bs w start starts = record { actions = actions_by_node L bs w start starts; delays = delays_by_node L bs w start starts }
