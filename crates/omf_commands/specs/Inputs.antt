-- Reading the inputs of a link, one after the other.
use Rattle.std.specs.Prelude.{◌≡◌, ℕ, ◌+◌, List, [], ◌∷◌, ◌++◌, ◌⊎◌, length, Err}
use Rattle.std.specs.declared.option.Option.{Option}
use Rattle.std.specs.Io.KnownBytes.{Consumes}
use Rattle.omf_module.specs.declared.fault.FaultKind.{FaultKind}
use Rattle.omf_module.specs.declared.fault.ModuleFault.{ModuleFault}
use Rattle.omf_module.specs.declared.fault.ModuleFault.TheVariants as reading
use Rattle.omf_module.specs.Module.{Module}
use Rattle.omf_record.specs.Records.{Placed}
use Rattle.omf_module.specs.Bytes.{ModuleBytes}
use Rattle.omf_module.specs.Reading.{Reads, failures_in}
use Rattle.omf_faults.specs.declared.fault.LinkFault.{LinkFault}
use Rattle.omf_commands.specs.Faults.{fault_at}

-- each input is, as bytes, a whole sound module of its records
abbrev pub AreModules : List (List Placed) → (inputs : List (List ℕ)) → Type 0
AreModules [] [] = Unit {0}
AreModules (records ∷ lists) (bytes ∷ inputs) = ModuleBytes records bytes × AreModules lists inputs
AreModules _ _ = ⊥

-- over sources that tell their bytes to come, and how many of their calls failed
module _ {S : Type 0} (told : S → Option (List ℕ)) (failures : S → ℕ) where
  -- an input begins with a whole sound module of these records, and exactly its bytes were taken
  abbrev pub IsInput : List Placed → (old new : S) → Type 0
  IsInput records old new =
      (bytes : List ℕ) × ModuleBytes records bytes × Consumes (told old) (told new) bytes
      × (failures new ≡ failures old)

  -- each input is the module of its records
  abbrev pub AreInputs : List (List Placed) → (olds news : List S) → Type 0
  AreInputs [] [] [] = Unit {0}
  AreInputs (records ∷ lists) (old ∷ olds) (new ∷ news) = IsInput records old new × AreInputs lists olds news
  AreInputs _ _ _ = ⊥

  -- the first inputs are modules of these records, and these are behind them, before and after
  abbrev pub ReadsFront : List (List Placed) → (olds news old_rest new_rest : List S) → Type 0
  ReadsFront lists olds news old_rest new_rest =
      (old_front new_front : List S) × AreInputs lists old_front new_front
      × (olds ≡ old_front ++ old_rest) × (news ≡ new_front ++ new_rest)

  -- reading stopped at an input: those before it are modules, and those behind it are as they were
  abbrev pub StopsReading : (olds news : List S) (input : ℕ) → ModuleFault → Type 0
  StopsReading olds news input fault =
      (lists : List (List Placed)) × (old new : S) × (rest : List S)
      × ReadsFront lists olds news (old ∷ rest) (new ∷ rest) × (input ≡ length lists)
      × Reads (λ (m : Module). m) (told old) (told new) (Err fault)
      × (failures new ≡ failures old + failures_in {A = Module} (Err fault))

  -- there was no memory for a module, or for one more
  abbrev pub StopsForMemory : (olds news : List S) → Type 0
  StopsForMemory olds news =
      ((input : ℕ) × StopsReading olds news input reading.Memory)
      ⊎ ((lists : List (List Placed)) × (rest : List S) × ReadsFront lists olds news rest rest)

  -- a record of an input has a reading fault
  abbrev pub StopsAtRecord : {A : Type 0} → (olds news : List S) → LinkFault A → Type 0
  StopsAtRecord olds news fault =
      (input place : ℕ) × (kind : FaultKind) × (fault ≡ fault_at input place kind)
      × StopsReading olds news input (reading.Record place kind)
