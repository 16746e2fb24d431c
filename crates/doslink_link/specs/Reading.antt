-- What bytes in memory begin with.
use Rattle.std.specs.Prelude.{◌≡◌, ℕ, List, ◌++◌, Ok, Err}
use Rattle.std.specs.declared.result.Result.{Result}
use Rattle.omf_record.specs.Records.{Placed}
use Rattle.omf_module.specs.Bytes.{ModuleBytes, ReadingFault}
use Rattle.omf_module.specs.Module.{Module}
use Rattle.omf_module.specs.Tables.{module_of}
use Rattle.omf_module.specs.declared.fault.ModuleFault.{ModuleFault}
use Rattle.omf_module.specs.declared.fault.ModuleFault.TheVariants as fault

-- bytes begin with a whole sound module of these records
abbrev pub BeginsWith : List Placed → (bytes : List ℕ) → Type 0
BeginsWith records bytes = (front rest : List ℕ) × (bytes ≡ front ++ rest) × ModuleBytes records front

-- bytes begin with this module
abbrev pub IsRead : (bytes : List ℕ) → Module → Type 0
IsRead bytes one = (records : List Placed) × BeginsWith records bytes × (one ≡ module_of records)

-- bytes begin with no module
abbrev pub IsNoModule : (bytes : List ℕ) → Type 0
IsNoModule bytes = (one : Module) → IsRead bytes one → ⊥

-- what reading bytes answers: the module, or its fault, unless there was no memory
abbrev pub IsReading : (bytes : List ℕ) → Result Module ModuleFault → Type 0
IsReading bytes (Ok one) = IsRead bytes one
IsReading bytes (Err fault.Memory) = Unit {0}
IsReading bytes (Err (fault.Record place found)) = ReadingFault bytes place found
