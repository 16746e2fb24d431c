-- How far the reading of inputs has come.
use Rattle.std.specs.Prelude.{◌≡◌, ℕ, List, map, Ok, Err}
use Rattle.std.specs.declared.option.Option.{Option}
use Rattle.std.specs.declared.result.Result.{Result}
use Rattle.omf_module.specs.Module.{Module}
use Rattle.omf_module.specs.Tables.{module_of}
use Rattle.omf_record.specs.Records.{Placed}
use Rattle.omf_faults.specs.declared.fault.LinkFault.{LinkFault}
use Rattle.omf_faults.specs.declared.fault.LinkFault.TheVariants as link
use Rattle.omf_commands.specs.Inputs.{AreInputs, StopsAtRecord, StopsForMemory}

-- over sources that tell their bytes to come, and how many of their calls failed
module _ {S : Type 0} (told : S → Option (List ℕ)) (failures : S → ℕ) where
  -- why not all inputs were read: the first reading fault, or want of memory
  abbrev pub IsInputFault : {A : Type 0} → (olds news : List S) → LinkFault A → Type 0
  IsInputFault olds news link.Memory = StopsForMemory told failures olds news
  IsInputFault {A = A} olds news (link.Device input place) =
      StopsAtRecord told failures {A = A} olds news (link.Device input place)
  IsInputFault {A = A} olds news (link.Record input place fault) =
      StopsAtRecord told failures {A = A} olds news (link.Record input place fault)
  IsInputFault olds news link.Output = ⊥
  IsInputFault olds news (link.Program fault) = ⊥
  IsInputFault olds news (link.File fault) = ⊥

  -- what reading all inputs answers: their modules, or why not
  abbrev pub ReadsInputs : {M A : Type 0} → (M → List Module) → (olds news : List S) → Result M (LinkFault A) → Type 0
  ReadsInputs view olds news (Ok modules) =
      (lists : List (List Placed)) × AreInputs told failures lists olds news × (view modules ≡ map module_of lists)
  ReadsInputs view olds news (Err fault) = IsInputFault olds news fault
