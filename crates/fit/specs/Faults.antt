-- Why a language does not fit a model.
--     code_of f   the number of a fault, and its place: a node is a record of section 5
use Rattle.model_file.specs.declared.fault.FaultCode.{FaultCode}
use Rattle.model_file.specs.Faults.{fault_code}
use Rattle.fit.specs.declared.fault.FitFault.{FitFault}
use Rattle.fit.specs.declared.fault.FitFault.TheVariants.{Expression, Variable}

abbrev pub code_of : FitFault → FaultCode
code_of (Expression n) = fault_code 9 5 n
code_of (Variable n) = fault_code 6 5 n
