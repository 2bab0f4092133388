-- What lies in the places of a list of fixed size. Assumes nothing.
--     filled b m xs    the items, and then blanks up to m places
use Rattle.std.specs.Prelude.{◌≡◌, ℕ, ◌-◌, ◌≤◌, List, ◌++◌, length, take, replicate}
use Rattle.std.proofs.Common.{ap, arith, length-append}
use Rattle.std.proofs.lemmas.List.{length-replicate, length-take}

abbrev pub filled : {X : Type 0} → X → ℕ → List X → List X
filled b m xs = xs ++ replicate (m - length xs) b

-- each item has its place
pub item_count : {X : Type 0} (b : X) (m n : ℕ) (ps : List X) → n ≤ m → ps ≡ filled b m (take n ps) → length (take n ps) ≡ n
item_count b m n ps le is =
    omega (arith, ap length is, length-append (take n ps) (replicate (m - length (take n ps)) b), length-replicate (m - length (take n ps)) b, length-take n ps)
