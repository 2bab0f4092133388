-- Faults of a model file.
--     code_of f     the number of a fault, its section and its record; what is missing is 0
--     of_header f   the fault of a model file whose header has the fault f
--     and_then      go on where there is no fault
use Rattle.std.specs.Prelude.{ℕ, Ok, Err, Result}
use Rattle.words.specs.declared.header.HeaderFault.{HeaderFault}
use Rattle.words.specs.declared.header.HeaderFault.TheVariants as header
use Rattle.model_file.specs.declared.fault.FaultCode.{FaultCode}
use Rattle.model_file.specs.declared.fault.ModelFault.{ModelFault}
use Rattle.model_file.specs.declared.fault.ModelFault.TheVariants.{Version, Cut, Limit, Unnamed, NotOnce, CallElsewhere, WaysDown}

abbrev pub fault_code : ℕ → ℕ → ℕ → FaultCode
fault_code n s r = record { number = n; section = s; «record» = r }

abbrev pub code_of : ModelFault → FaultCode
code_of Version = fault_code 1 0 0
code_of (Cut s r) = fault_code 2 s r
code_of (Limit s r) = fault_code 3 s r
code_of (Unnamed s r) = fault_code 4 s r
code_of (NotOnce s r) = fault_code 5 s r
code_of (CallElsewhere n) = fault_code 7 5 n
code_of (WaysDown n) = fault_code 8 5 n

abbrev pub of_header : HeaderFault → ModelFault
of_header header.Version = Version
of_header header.Length = Cut 0 0

abbrev pub or_fault : {X : Type 0} → Result X HeaderFault → Result X ModelFault
or_fault (Ok x) = Ok x
or_fault (Err e) = Err (of_header e)

abbrev pub and_then : {X Y : Type 0} → Result X ModelFault → (X → Result Y ModelFault) → Result Y ModelFault
and_then (Ok x) go = go x
and_then (Err e) go = Err e
