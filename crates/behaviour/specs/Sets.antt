-- Which vectors and which terms there are.
use Rattle.std.specs.Prelude.{◌≡◌, ℕ, ◌<◌, ◌≤◌, false, length, slice_index}
use Rattle.std.specs.List.{AllByRecursion}
use Rattle.language.specs.Meanings.{Meaning}
use Rattle.valuation.specs.Transitions.{Transition, move, wait}
use Rattle.linear.specs.Equations.{Vector}
use Rattle.source.specs.Free.{free}
use Rattle.source.specs.Models.{Model, Term, node}
use Rattle.source.specs.Places.{places, counter, place}

-- a program counter and V values
abbrev pub Shaped : Model → Vector → Type 0
Shaped m v = (1 ≤ v.counter) × (v.counter ≤ length (places m)) × (length v.values ≡ length m.sizes)

-- each of them below its size
abbrev pub InSet : Model → Vector → Type 0
InSet m v = Shaped m v × ((x : ℕ) → x < length m.sizes → slice_index v.values x < slice_index m.sizes x)

-- a resting place and V values, each below its size, and 0 where not free
abbrev pub InTerms : Meaning → Model → Term → Type 0
InTerms L m s =
    let t = place m (counter m s.place) in
    (node t ≡ s.place) × (counter m s.place ≤ length (places m)) × (length s.values ≡ length m.sizes)
    × ((x : ℕ) → x < length m.sizes → slice_index s.values x < slice_index m.sizes x) × ((x : ℕ) → x < length m.sizes → free L t x ≡ false → slice_index s.values x ≡ 0)

-- every target of a transition
abbrev pub To : {S : Type 0} → (S → Type 0) → Transition S → Type 0
To P (move a args outs) = AllByRecursion (λ o. P o.to) outs
To P (wait r s) = P s
