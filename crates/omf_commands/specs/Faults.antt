-- The faults of what a command calls, as faults of the command.
use Rattle.std.specs.Prelude.{ℕ}
use Rattle.omf_module.specs.declared.fault.FaultKind.{FaultKind}
use Rattle.omf_module.specs.declared.fault.FaultKind.TheVariants as kind
use Rattle.omf_module.specs.declared.fault.ModuleFault.{ModuleFault}
use Rattle.omf_module.specs.declared.fault.ModuleFault.TheVariants as reading
use Rattle.omf_faults.specs.declared.fault.InputFault.TheVariants as fault
use Rattle.omf_faults.specs.declared.fault.LinkFault.{LinkFault}
use Rattle.omf_faults.specs.declared.fault.LinkFault.TheVariants as link

-- a fault of reading the input with this index
abbrev pub fault_at : {A : Type 0} → (input place : ℕ) → FaultKind → LinkFault A
fault_at input place kind.Device = link.Device input place
fault_at input place (kind.Absent why) = link.Record input place (fault.Absent why)
fault_at input place (kind.Check found) = link.Record input place (fault.Check found)

-- a fault of reading the input with this index as a module
abbrev pub module_fault : {A : Type 0} → ℕ → ModuleFault → LinkFault A
module_fault input reading.Memory = link.Memory
module_fault input (reading.Record place found) = fault_at input place found
