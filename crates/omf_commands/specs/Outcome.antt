-- The answer of a link, read off the bytes of its inputs.
use Rattle.std.specs.Prelude.{◌≡◌, ℕ, List, [], ◌∷◌, ◌++◌, ◌⊎◌, length, map, Some, Ok, Err}
use Rattle.std.specs.declared.option.Option.{Option}
use Rattle.std.specs.declared.result.Result.{Result}
use Rattle.omf_record.specs.Records.{Placed}
use Rattle.omf_module.specs.declared.fault.FaultKind.{FaultKind}
use Rattle.omf_module.specs.Bytes.{ModuleBytes, ReadingFault}
use Rattle.omf_module.specs.Tables.{module_of}
use Rattle.omf_place.specs.declared.names.Names.{Names}
use Rattle.omf_faults.specs.FaultLines.{number, input, fault_text}
use Rattle.omf_faults.specs.declared.fault.LinkFault.{LinkFault}
use Rattle.omf_faults.specs.declared.fault.LinkFault.TheVariants as link
use Rattle.omf_commands.specs.Linking.{program_said, IsModulesFault}
use Rattle.omf_commands.specs.Faults.{fault_at}

-- Two faults are one: of the modules together, what they say, since names are held in memory of their own.
abbrev pub SameFault : {A : Type 0} → LinkFault A → LinkFault A → Type 0
SameFault (link.Program fault) (link.Program other) = program_said fault ≡ program_said other
SameFault fault other = fault ≡ other

-- what a fault tells: its number, the input at fault, and its line behind the program's name, with place and name, for
-- each word before the number
abbrev pub telling : {A : Type 0} → LinkFault A → Option ℕ × Option ℕ × (List ℕ → List ℕ)
telling fault = (number fault, input fault, fault_text fault)

-- A fault stands in these inputs behind those that are modules of `before`: the reading fault of the first that has
-- one, else the first fault of the modules of all.
abbrev pub StandsBehind : {A : Type 0} → Names → (before : List (List Placed)) → (inputs : List (List ℕ)) → LinkFault A
    → Type 0
StandsBehind names before [] fault = IsModulesFault names (map module_of before) fault
StandsBehind names before (bytes ∷ inputs) fault =
    ((place : ℕ) × (kind : FaultKind) × ReadingFault bytes place kind × (fault ≡ fault_at (length before) place kind))
    ⊎ ((records : List Placed) × (front rest : List ℕ) × (bytes ≡ front ++ rest) × ModuleBytes records front
    × StandsBehind names (before ++ records ∷ []) inputs fault)

-- no fault stands in the inputs
abbrev pub IsFaultless : (A : Type 0) → Names → (inputs : List (List ℕ)) → Type 0
IsFaultless A names inputs = (fault : LinkFault A) → StandsBehind names [] inputs fault → ⊥

-- this fault stands in the inputs, and no other does
abbrev pub IsOnlyFault : {A : Type 0} → Names → (inputs : List (List ℕ)) → LinkFault A → Type 0
IsOnlyFault {A} names inputs fault =
    StandsBehind names [] inputs fault
    × ((other : LinkFault A) → StandsBehind names [] inputs other → SameFault other fault)

-- Linking inputs answers a program exactly where no fault stands in them, else the only one; unless a device failed or
-- there was no memory. The sink fails only where no fault stands.
abbrev pub Outcome : {R A : Type 0} → Names → (inputs : List (List ℕ)) → Result R (LinkFault A) → Type 0
Outcome {A = A} names inputs (Ok report) = IsFaultless A names inputs
Outcome {A = A} names inputs (Err link.Output) = IsFaultless A names inputs
Outcome names inputs (Err link.Memory) = Unit {0}
Outcome names inputs (Err (link.Device input place)) = Unit {0}
Outcome names inputs (Err fault) = IsOnlyFault names inputs fault

-- each source tells these bytes to come
abbrev pub AreTold : {S : Type 0} → (told : S → Option (List ℕ)) → List S → (inputs : List (List ℕ)) → Type 0
AreTold told sources inputs = map told sources ≡ map Some inputs
