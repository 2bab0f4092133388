-- What lies in a place of a table that holds no summand. Assumes nothing.
--     no_acts        action 0 with no arguments, variable 0 and weight 0
--     no_summand d   a summand that does d, at no program counter, with no sums, conditions and entries
use Rattle.std.specs.Prelude.{[]}
use Rattle.linear.specs.Equations.{Acts, Guarded, Leads, Summand}

abbrev pub no_acts : Acts
no_acts = record { action = 0; arguments = []; variable = 0; weight = 0 }

abbrev pub no_guard : Guarded
no_guard = record { counter = 0; sums = []; conditions = [] }

abbrev pub no_leads : Leads
no_leads = record { counter = 0; entries = [] }

abbrev pub no_summand : {D : Type 0} → D → Summand D
no_summand d = record { when = no_guard; does = d; leads = no_leads }
