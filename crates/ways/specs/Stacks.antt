-- What a stack of frames has yet to give, and how much work that is.
use Rattle.std.specs.Prelude.{◌≡◌, ℕ, zero, suc, ◌+◌, ◌-◌, ◌<◌, ◌≤◌, List, [], ◌∷◌, ◌++◌, length, reverse, slice_index_or, replicate, sum_by, take, Some, None, Option, slice_index, slice_set, refl}
use Rattle.std.proofs.Common.{lit≤}
use Rattle.std.specs.List.{range_with_len, flat_map}
use Rattle.language.specs.Meanings.{Meaning}
use Rattle.valuation.specs.Valuations.{listed}
use Rattle.valuation.specs.declared.valuation.Valuation.{Valuation}
use Rattle.ways.specs.declared.branch.Found.{Found}
use Rattle.ways.specs.declared.frames.Frame.{Frame}
use Rattle.ways.specs.Leaves.{Leaf, leaves, leaf_of}
use Rattle.ways.specs.Trees.{Tree, dead, when, choice, sum, leaf}

-- leaves, where a sum begins at the value v
module _ (L : Meaning) (sizes : List ℕ) where
  abbrev pub leaves_from : Tree → ℕ → List ℕ → List Leaf
  leaves_from dead v ρ = []
  leaves_from (when e t) v ρ = leaves L sizes (when e t) ρ
  leaves_from (choice l r) v ρ = leaves L sizes (choice l r) ρ
  leaves_from (sum x t) v ρ = flat_map (λ d. leaves L sizes t (slice_set ρ x d)) (range_with_len v (slice_index sizes x - v))
  leaves_from (leaf n) v ρ = leaves L sizes (leaf n) ρ

abbrev pub no_valuation : Valuation
no_valuation = record { width = 0; values = replicate 16 0; narrow = lit≤ tt; full = refl }

abbrev pub no_frame : Frame
no_frame = record { node = 0; from = 0; valuation = no_valuation }

module _ (L : Meaning) (sizes : List ℕ) (tree : ℕ → Tree) where
  abbrev pub frame_leaves : Frame → List Leaf
  frame_leaves f = leaves_from L sizes (tree f.node) f.from (listed f.valuation)

  -- what the frames give, the last one first
  abbrev pub remaining : List Frame → List Leaf
  remaining fs = flat_map frame_leaves (reverse fs)

-- how many turns are left
abbrev pub rounds : ℕ → ℕ → ℕ
rounds zero w = 1
rounds (suc k) w = suc (w + rounds k w)

module _ (sizes : List ℕ) where
  abbrev pub work : Tree → ℕ
  work dead = 1
  work (when e t) = suc (work t)
  work (choice l r) = suc (work l + work r)
  work (sum x t) = rounds (slice_index sizes x) (work t)
  work (leaf n) = 1

  abbrev pub work_from : Tree → ℕ → ℕ
  work_from dead v = 1
  work_from (when e t) v = work (when e t)
  work_from (choice l r) v = work (choice l r)
  work_from (sum x t) v = rounds (slice_index sizes x - v) (work t)
  work_from (leaf n) v = 1

module _ (sizes : List ℕ) (tree : ℕ → Tree) where
  abbrev pub frame_work : Frame → ℕ
  frame_work f = work_from sizes (tree f.node) f.from

  abbrev pub work_left : List Frame → ℕ
  work_left fs = sum_by frame_work fs

-- frame i is at a node of at least i
abbrev pub Rising : List Frame → Type 0
Rising fs = (i : ℕ) → i < length fs → i ≤ (slice_index_or fs i no_frame).node

-- the frame on top, and the frames below it
abbrev pub top : List Frame → Frame
top fs = slice_index_or fs (length fs - 1) no_frame

abbrev pub below : List Frame → List Frame
below fs = take (length fs - 1) fs

-- what was left is what was found, if anything was, and what is left
abbrev pub Gives : Option Found → List Leaf → List Leaf → Type 0
Gives None before after = before ≡ after
Gives (Some f) before after = before ≡ leaf_of f ∷ after

-- the next leaf, if there is one
abbrev pub Yields : Option Found → List Leaf → List Leaf → Type 0
Yields None before after = before ≡ []
Yields (Some f) before after = before ≡ leaf_of f ∷ after

-- one turn takes the frame f, which was on top of others, and leads from those to the frames gs
module _ (L : Meaning) (sizes : List ℕ) (tree : ℕ → Tree) where
  pub record Turned (f : Frame) (fs : List Frame) (r : Option Found) (gs : List Frame) : Type 0 where
    pub gives : Gives r (frame_leaves L sizes tree f ++ remaining L sizes tree fs) (remaining L sizes tree gs)
    pub falls : work_left sizes tree gs < frame_work sizes tree f + work_left sizes tree fs
