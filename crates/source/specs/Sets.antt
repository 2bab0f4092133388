-- Sets of nodes.
--     has s n   the node n is in the set s
use Rattle.std.specs.Prelude.{ℕ, Bool, false, slice_index_or}
use Rattle.source.specs.declared.set.NodeSet.{NodeSet}

abbrev pub has : NodeSet → ℕ → Bool
has s n = slice_index_or s.flags n false
