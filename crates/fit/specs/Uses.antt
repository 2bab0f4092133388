-- The expressions that a node uses, as a model hands it out.
--     uses_beyond n v     the node v uses an expression from n up
--     strays L x here v   the node v uses an expression that names x, which is not in scope; `here` says whether x is in scope at v.
--                         An action's own variable is in scope for its weight, but not for its arguments
use Rattle.std.specs.Prelude.{ℕ, Bool, false, not, ◌&&◌, ◌||◌, nat_le, ◌==◌}
use Rattle.std.specs.List.{list_any}
use Rattle.language.specs.Meanings.{Meaning}
use Rattle.model.specs.Nodes.{NodeValue, call, condition, choice, sum, action, delay}
use Rattle.source.specs.Nodes.{words_in}

abbrev pub uses_beyond : ℕ → NodeValue → Bool
uses_beyond n (call p bs) = list_any (nat_le n) (words_in bs)
uses_beyond n (condition e c) = nat_le n e
uses_beyond n (choice l r) = false
uses_beyond n (sum v c) = false
uses_beyond n (action a bs v w c) = list_any (nat_le n) (words_in bs) || nat_le n w
uses_beyond n (delay r c) = nat_le n r

abbrev pub strays : Meaning → ℕ → Bool → NodeValue → Bool
strays L x here (call p bs) = list_any (λ e. L.names e x) (words_in bs) && not here
strays L x here (condition e c) = L.names e x && not here
strays L x here (choice l r) = false
strays L x here (sum v c) = false
strays L x here (action a bs v w c) = (list_any (λ e. L.names e x) (words_in bs) && not here) || (L.names w x && not (v == x || here))
strays L x here (delay r c) = L.names r x && not here
