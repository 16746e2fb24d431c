-- One record more of a module that is read.
use Rattle.std.specs.Prelude.{◌≡◌, ℕ, Bool, List, Ok, Err}
use Rattle.std.specs.declared.result.Result.{Result}
use Rattle.omf_record.specs.Record.{Record}
use Rattle.omf_record.specs.Body.{BodyOf, BodyFault, IsRecordType}
use Rattle.omf_record.specs.Records.{is_end}
use Rattle.omf_record.specs.declared.fault.NoRecord.TheVariants as absent
use Rattle.omf_module.specs.declared.fault.FaultKind.{FaultKind}
use Rattle.omf_module.specs.declared.fault.FaultKind.TheVariants as kind
use Rattle.omf_module.specs.declared.fault.ModuleFault.{ModuleFault}
use Rattle.omf_module.specs.declared.fault.ModuleFault.TheVariants as fault
use Rattle.omf_module.specs.inside.Running.{State, step}

-- why a record isn't taken: its type, its body or a check is at fault
abbrev pub IsRecordFault : (type : ℕ) (body : List ℕ) → ℕ → State → FaultKind → Type 0
IsRecordFault type body place state (kind.Absent absent.Type) = IsRecordType type → ⊥
IsRecordFault type body place state (kind.Absent (absent.Body at)) = IsRecordType type × BodyFault type body at
IsRecordFault type body place state (kind.Check fault) =
    (says : Record) × BodyOf type says body × (step state place says ≡ Err fault)
IsRecordFault type body place state kind.Device = ⊥
IsRecordFault type body place state (kind.Absent absent.NoEnd) = ⊥
IsRecordFault type body place state (kind.Absent (absent.Framing why)) = ⊥

-- taking a record of this type and body into a state: whether it ends the module, or its fault
abbrev pub TakesRecord : (type : ℕ) (body : List ℕ) → ℕ → (old new : State) → Result Bool ModuleFault → Type 0
TakesRecord type body place old new (Ok end) =
    (says : Record) × BodyOf type says body × (is_end says ≡ end) × (step old place says ≡ Ok new)
TakesRecord type body place old new (Err fault.Memory) = Unit {0}
TakesRecord type body place old new (Err (fault.Record at kind)) = (at ≡ place) × IsRecordFault type body place old kind
