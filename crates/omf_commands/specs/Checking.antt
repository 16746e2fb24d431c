-- What checking an input answers.
use Rattle.std.specs.Prelude.{◌≡◌, ℕ, List, codes, Some, Ok, Err}
use Rattle.std.specs.declared.option.Option.{Option}
use Rattle.std.specs.declared.result.Result.{Result}
use Rattle.std.specs.Io.KnownBytes.{Consumes, Appends, Keeps}
use Rattle.omf_frame.specs.Device.{AppendsFront}
use Rattle.omf_record.specs.Records.{Placed}
use Rattle.omf_module.specs.declared.fault.ModuleFault.{ModuleFault}
use Rattle.omf_module.specs.Module.{Module}
use Rattle.omf_module.specs.Bytes.{ModuleBytes}
use Rattle.omf_module.specs.Reading.{Reads}
use Rattle.omf_faults.specs.declared.fault.LinkFault.{LinkFault}
use Rattle.omf_faults.specs.declared.fault.LinkFault.TheVariants as link
use Rattle.omf_commands.specs.Faults.{module_fault}

-- the input begins with a whole sound module, and exactly its bytes were taken
abbrev pub IsSound : (old new : Option (List ℕ)) → Type 0
IsSound old new = (records : List Placed) × (front : List ℕ) × ModuleBytes records front × Consumes old new front

-- reading the input as a module answered this fault
abbrev pub IsRefused : {A : Type 0} → (old new : Option (List ℕ)) → LinkFault A → Type 0
IsRefused old new fault =
    (refusal : ModuleFault) × (fault ≡ module_fault 0 refusal) × Reads (λ (m : Module). m) old new (Err refusal)

-- what checking answers, and what is told of the source and of the sink before and after
abbrev pub Checks : {A : Type 0} → (old new wold wnew : Option (List ℕ)) → Result (Unit {0}) (LinkFault A) → Type 0
Checks old new wold wnew (Ok done) = IsSound old new × Appends wold wnew (codes "ok\n")
Checks old new wold wnew (Err link.Output) = IsSound old new × AppendsFront wold wnew (codes "ok\n")
Checks {A} old new wold wnew (Err link.Memory) = IsRefused {A = A} old new link.Memory × Keeps wold wnew
Checks {A} old new wold wnew (Err (link.Device input place)) =
    IsRefused {A = A} old new (link.Device input place) × Keeps wold wnew
Checks {A} old new wold wnew (Err (link.Record input place fault)) =
    IsRefused {A = A} old new (link.Record input place fault) × Keeps wold wnew
Checks old new wold wnew (Err (link.Program fault)) = ⊥
Checks old new wold wnew (Err (link.File fault)) = ⊥

-- all of a sound module was read, and this is left, unless a device or memory failed
abbrev pub ChecksWhole : {A : Type 0} → (rest : List ℕ) → (new wold wnew : Option (List ℕ))
    → Result (Unit {0}) (LinkFault A) → Type 0
ChecksWhole rest new wold wnew (Ok done) = (new ≡ Some rest) × Appends wold wnew (codes "ok\n")
ChecksWhole rest new wold wnew (Err link.Output) = (new ≡ Some rest) × AppendsFront wold wnew (codes "ok\n")
ChecksWhole rest new wold wnew (Err link.Memory) = Unit {0}
ChecksWhole rest new wold wnew (Err (link.Device input place)) = Unit {0}
ChecksWhole rest new wold wnew (Err (link.Record input place fault)) = ⊥
ChecksWhole rest new wold wnew (Err (link.Program fault)) = ⊥
ChecksWhole rest new wold wnew (Err (link.File fault)) = ⊥
