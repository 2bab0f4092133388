-- What a lawful equation keeps, as tests. Assumes nothing.
--     limits E     counts, sizes and the first values are within their limits
--     named E      each program counter, variable, action and entry is one, and no summand chooses a variable twice
--     small E      the sizes of each summand's sum variables multiply to at most 65,536
--     lawful E     all of these
--     IsFile bs    the bytes are the file of a lawful equation
use Rattle.std.specs.Prelude.{◌≡◌, ℕ, ◌+◌, ◌*◌, Bool, true, false, not, ◌&&◌, nat_lt, List, [], ◌∷◌, length, ◌==◌, nat_le, slice_index_or}
use Rattle.std.specs.List.{list_any, list_all}
use Rattle.linear.specs.Equations.{Guarded, Acts, Leads, Summand, Linear}
use Rattle.linear.specs.Layout.{file_of}

abbrev pub all : {X : Type 0} → (X → Bool) → List X → Bool
all p xs = list_all p xs

abbrev pub within : ℕ → ℕ → ℕ → Bool
within low high n = nat_le low n && nat_le n high

abbrev pub member : ℕ → List ℕ → Bool
member x xs = list_any (λ y. y == x) xs

abbrev pub distinct : List ℕ → Bool
distinct [] = true
distinct (x ∷ xs) = not (member x xs) && distinct xs

-- each value is below the size at its place, and there is one for each
abbrev pub fitted : List ℕ → List ℕ → Bool
fitted [] [] = true
fitted [] (v ∷ vs) = false
fitted (n ∷ ns) [] = false
fitted (n ∷ ns) (v ∷ vs) = nat_lt v n && fitted ns vs

-- the counts in a summand
abbrev pub few_guard : Guarded → Bool
few_guard g = nat_le (length g.sums) 8 && nat_le (length g.conditions) 8

abbrev pub few_action : Summand Acts → Bool
few_action s = few_guard s.when && nat_le (length s.does.arguments) 4

abbrev pub few_delay : Summand ℕ → Bool
few_delay s = few_guard s.when

abbrev pub limits : Linear → Bool
limits e =
    nat_le (length e.sizes) 16
    && all (within 1 256) e.sizes
    && within 1 256 e.counters
    && fitted e.sizes e.first.values
    && nat_le (length e.actions + length e.delays) 256
    && all few_action e.actions
    && all few_delay e.delays

-- of v variables and c program counters
abbrev pub named_guard : ℕ → ℕ → Guarded → Bool
named_guard v c g = within 1 c g.counter && all (λ x. nat_lt x v) g.sums && distinct g.sums

abbrev pub named_leads : ℕ → ℕ → Leads → Bool
named_leads v c t = within 1 c t.counter && length t.entries == v

abbrev pub named_acts : ℕ → List ℕ → Acts → Bool
named_acts v sums a = nat_le a.action 63 && nat_lt a.variable v && not (member a.variable sums)

abbrev pub named_action : ℕ → ℕ → Summand Acts → Bool
named_action v c s = named_guard v c s.when && named_acts v s.when.sums s.does && named_leads v c s.leads

abbrev pub named_delay : ℕ → ℕ → Summand ℕ → Bool
named_delay v c s = named_guard v c s.when && named_leads v c s.leads

abbrev pub named : Linear → Bool
named e =
    within 1 e.counters e.first.counter
    && all (named_action (length e.sizes) e.counters) e.actions
    && all (named_delay (length e.sizes) e.counters) e.delays

-- a variable that is none counts as of size 1
abbrev pub product : List ℕ → List ℕ → ℕ
product sizes [] = 1
product sizes (x ∷ xs) = slice_index_or sizes x 1 * product sizes xs

abbrev pub most : ℕ
most = 65536

abbrev pub small_sums : {D : Type 0} → List ℕ → Summand D → Bool
small_sums sizes s = nat_le (product sizes s.when.sums) most

abbrev pub small : Linear → Bool
small e = all (small_sums e.sizes) e.actions && all (small_sums e.sizes) e.delays

abbrev pub lawful : Linear → Bool
lawful e = limits e && named e && small e

abbrev pub IsFile : List ℕ → Type 0
IsFile bs = (e : Linear) × ((lawful e ≡ true) × (bs ≡ file_of e))
