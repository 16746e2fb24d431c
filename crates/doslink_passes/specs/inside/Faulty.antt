-- How reading ends where the bytes of a module are at fault.
use Rattle.omf_module.specs.declared.fault.FaultKind.TheVariants as kind
use Rattle.omf_module.specs.declared.fault.ModuleFault.{ModuleFault}
use Rattle.omf_module.specs.declared.fault.ModuleFault.TheVariants as fault

-- the bytes are at fault: neither was memory refused, nor did a device fail
abbrev pub IsOfBytes : ModuleFault → Type 0
IsOfBytes fault.Memory = ⊥
IsOfBytes (fault.Record place kind.Device) = ⊥
IsOfBytes (fault.Record place found) = Unit {0}
