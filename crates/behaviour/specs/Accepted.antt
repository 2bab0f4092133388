-- What an accepted model file gives.
--     Accepts    a sound model, whose trees are those of its nodes
--     ByNodes    the equation's summands, node by node: each action and delay node gives one, in node order, with what stands above it
use Rattle.std.specs.Prelude.{◌≡◌, ℕ, List}
use Rattle.std.specs.List.{range_with_len, flat_map}
use Rattle.language.specs.Meanings.{Meaning}
use Rattle.linear.specs.Equations.{Guarded, Leads}
use Rattle.model_file.specs.Fields.{node_count}
use Rattle.model_file.specs.Layouts.{layout_of}
use Rattle.model_rules.specs.Sound.{Resting}
use Rattle.model.specs.Flat.{flat}
use Rattle.model.specs.Nodes.{node_in}
use Rattle.model.specs.Trees.{tree_of}
use Rattle.model.specs.WellFormed.{WellFormed}
use Rattle.source.specs.Models.{model_of, next}
use Rattle.source.specs.Places.{counter}
use Rattle.source.specs.Sound.{Sound}
use Rattle.behaviour.specs.Linearised.{leads_to, equation_of}
use Rattle.behaviour.specs.Passing.{place_itself, above, actions_at, delays_at}

abbrev pub Accepts : Type 0
Accepts = (bs : List ℕ) → WellFormed bs → (s : Sound (model_of (flat bs))) × (s.tree ≡ tree_of (flat bs))

-- where the child c of an action or a delay leads
abbrev pub leads_from : Meaning → List ℕ → ℕ → Leads
leads_from L bs c = leads_to L (model_of (flat bs)) (next (tree_of (flat bs) c))

pub record NodeByNode (L : Meaning) (bs : List ℕ) (start : ℕ → Guarded) : Type 0 where
  pub actions : (equation_of L (model_of (flat bs))).actions ≡ flat_map (λ i. actions_at (above (node_in (flat bs)) start i) (leads_from L bs) (node_in (flat bs) i)) (range_with_len 0 (node_count bs (layout_of bs)))
  pub delays : (equation_of L (model_of (flat bs))).delays ≡ flat_map (λ i. delays_at (above (node_in (flat bs)) start i) (leads_from L bs) (node_in (flat bs) i)) (range_with_len 0 (node_count bs (layout_of bs)))

abbrev pub ByNodes : Type 0
ByNodes =
    (L : Meaning) (bs : List ℕ) → WellFormed bs → (start : ℕ → Guarded)
    → ((c : ℕ) → Resting bs (layout_of bs) c → start c ≡ place_itself (counter (model_of (flat bs)) c)) → NodeByNode L bs start
