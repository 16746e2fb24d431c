-- What reading a module answers, and where the source then stands.
use Rattle.std.specs.Prelude.{◌≡◌, ℕ, ◌-◌, List, length, Some, Ok, Err, IfSome, ◌⊎◌}
use Rattle.std.specs.declared.option.Option.{Option}
use Rattle.std.specs.declared.result.Result.{Result}
use Rattle.std.specs.Io.KnownBytes.{Consumes, Keeps}
use Rattle.omf_frame.specs.Device.{TakesAtMost}
use Rattle.omf_frame.specs.Frame.{record_len}
use Rattle.omf_frame.specs.Reading.{TakesWhole}
use Rattle.omf_frame.specs.declared.reading.FramingFault.TheVariants.{InputTooLong}
use Rattle.omf_record.specs.Records.{Placed}
use Rattle.omf_record.specs.declared.fault.NoRecord.TheVariants.{Framing}
use Rattle.omf_module.specs.declared.fault.FaultKind.{FaultKind}
use Rattle.omf_module.specs.declared.fault.FaultKind.TheVariants as kind
use Rattle.omf_module.specs.declared.fault.ModuleFault.{ModuleFault}
use Rattle.omf_module.specs.declared.fault.ModuleFault.TheVariants as fault
use Rattle.omf_module.specs.Module.{Module}
use Rattle.omf_module.specs.Tables.{module_of}
use Rattle.omf_module.specs.Bytes.{Beginning, ModuleBytes, ReadingFault}

-- how many calls of the source failed
abbrev pub failures_in : {A : Type 0} → Result A ModuleFault → ℕ
failures_in (Err (fault.Record place kind.Device)) = 1
failures_in _ = 0

-- What is taken of the record at fault: the whole of it, all that is left of one that is cut off, of one of length 0
-- its three bytes; at the limit nothing, and where the source failed not all of it.
abbrev pub TakesFaulty : Option (List ℕ) → Option (List ℕ) → FaultKind → Type 0
TakesFaulty old new kind.Device = IfSome old (λ bytes. TakesAtMost old new (record_len bytes - 1))
TakesFaulty old new (kind.Absent (Framing InputTooLong)) = Keeps old new
TakesFaulty old new _ = TakesWhole old new

-- a fault other than the source's own is the reading fault of the bytes
abbrev pub IsFaultOf : List ℕ → ℕ → FaultKind → Type 0
IsFaultOf bytes place kind.Device = Unit {0}
IsFaultOf bytes place found = ReadingFault bytes place found

-- What is told of the source before and after, and the answer: the module of the records of a whole sound module,
-- having taken exactly its bytes; else a fault of the record behind those that were taken.
unfoldable pub Reads : {A : Type 0} → (A → Module) → Option (List ℕ) → Option (List ℕ) → Result A ModuleFault → Type 0
Reads view old new (Ok module') =
    (rs : List Placed) × (front : List ℕ) × ModuleBytes rs front × Consumes old new front
    × (view module' ≡ module_of rs)
Reads view old new (Err fault.Memory) =
    (rs : List Placed) × (front : List ℕ) × (mid : Option (List ℕ)) × Beginning rs front × Consumes old mid front
    × (Keeps mid new ⊎ TakesWhole mid new)
Reads view old new (Err (fault.Record place kind)) =
    (rs : List Placed) × (front : List ℕ) × (mid : Option (List ℕ)) × Beginning rs front × Consumes old mid front
    × (place ≡ length front) × TakesFaulty mid new kind × IfSome old (λ bytes. IsFaultOf bytes place kind)

-- The answer is this module, and these bytes are left, unless memory or the source failed.
abbrev pub IsModule : {A : Type 0} → (A → Module) → Module → (rest : List ℕ) → (new : Option (List ℕ))
    → Result A ModuleFault → Type 0
IsModule view module' rest new (Ok answer) = (view answer ≡ module') × (new ≡ Some rest)
IsModule view module' rest new (Err fault.Memory) = Unit {0}
IsModule view module' rest new (Err (fault.Record place kind.Device)) = Unit {0}
IsModule view module' rest new (Err (fault.Record place (kind.Absent why))) = ⊥
IsModule view module' rest new (Err (fault.Record place (kind.Check check))) = ⊥

-- The answer is this fault at this place, unless memory or the source failed.
abbrev pub IsFault : {A : Type 0} → ℕ → FaultKind → Result A ModuleFault → Type 0
IsFault place reported (Ok answer) = ⊥
IsFault place reported (Err fault.Memory) = Unit {0}
IsFault place reported (Err (fault.Record at kind.Device)) = Unit {0}
IsFault place reported (Err (fault.Record at found)) = (at ≡ place) × (found ≡ reported)
