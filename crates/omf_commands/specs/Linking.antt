-- What the record lists of the inputs stand for, under a choice of which names agree, and what linking them answers.
use Rattle.std.specs.Prelude.{◌≡◌, ℕ, ◌+◌, ◌*◌, ◌<◌, ◌≤◌, ◌⊎◌, List, length, map, get_or, None, Some, Ok, Err}
use Rattle.std.specs.Prelude.{MatchOption}
use Rattle.std.specs.declared.option.Option.{Option}
use Rattle.std.specs.declared.result.Result.{Result}
use Rattle.std.specs.Io.KnownBytes.{Appends, Keeps}
use Rattle.omf_frame.specs.Device.{AppendsFront}
use Rattle.omf_module.specs.Module.{Module}
use Rattle.omf_module.specs.Tables.{module_of}
use Rattle.omf_record.specs.Records.{Placed}
use Rattle.omf_place.specs.Faults as placing
use Rattle.omf_place.specs.Faults.{PlacementFault, IsPlacedAs}
use Rattle.omf_place.specs.Layout.{Layout}
use Rattle.omf_place.specs.declared.names.Names.{Names}
use Rattle.omf_image.specs.Building.{IsProgramOf}
use Rattle.omf_image.specs.Program.{Program}
use Rattle.omf_image.specs.Records.{program_byte, written}
use Rattle.omf_image.specs.Registers.{registers, program_fault}
use Rattle.omf_image.specs.declared.faults.FixFault.{FixFault}
use Rattle.omf_image.specs.declared.faults.FixFault.TheVariants as build
use Rattle.mz.specs.File.{Mz, MzFile}
use Rattle.mz.specs.Loading.{Loaded, loaded, loading}
use Rattle.mz.specs.Reading.{file_of, reading}
use Rattle.omf_faults.specs.declared.fault.InputFault.TheVariants.{Fix}
use Rattle.omf_faults.specs.declared.fault.ProgramFault.{ProgramFault}
use Rattle.omf_faults.specs.declared.fault.ProgramFault.TheVariants as program
use Rattle.omf_faults.specs.declared.fault.LinkFault.{LinkFault}
use Rattle.omf_faults.specs.declared.fault.LinkFault.TheVariants as link
use Rattle.omf_commands.specs.declared.linking.Report.{Report}
use Rattle.omf_commands.specs.Inputs.{AreInputs, StopsAtRecord, StopsForMemory}

-- ---- the program of modules, and its file

-- the program of modules, whose only layout this is: no fault stands
pub record IsLinked (names : Names) (modules : List Module) (layout : Layout) (made : Program) : Type 0 where
  pub is_layout : IsPlacedAs names modules (Ok layout)
  pub sound : program_fault layout modules ≡ None
  pub program : IsProgramOf layout modules made

-- the file of the program of modules
abbrev pub IsFileOf : Names → List Module → List ℕ → Type 0
IsFileOf names modules file = (layout : Layout) × (made : Program) × IsLinked names modules layout made × Mz made file

-- ---- the first fault of modules

-- what a fault of the modules together says, but that too many words are relocated, which is a fault of building
abbrev pub program_said : {A : Type 0} → ProgramFault A → Option PlacementFault
program_said (program.SegmentTooLong name) = Some (placing.SegmentTooLong name.items)
program_said program.ProgramTooLarge = Some placing.ProgramTooLarge
program_said (program.GroupTooLong name) = Some (placing.GroupTooLong name.items)
program_said (program.DuplicatePublic name) = Some (placing.DuplicatePublic name.items)
program_said program.TooManyRelocations = None

-- of data, fix-ups, the start, or the number of relocated words
abbrev pub IsBuildFault : Names → List Module → FixFault → Type 0
IsBuildFault names modules fault =
    (layout : Layout) × IsPlacedAs names modules (Ok layout) × (program_fault layout modules ≡ Some fault)

-- the first fault of placing modules and of building their program; no other fault is one
abbrev pub IsModulesFault : {A : Type 0} → Names → List Module → LinkFault A → Type 0
IsModulesFault names modules (link.Program fault) = MatchOption (program_said fault)
    (IsBuildFault names modules build.TooManyRelocations) (λ first. IsPlacedAs names modules (Err first))
IsModulesFault names modules (link.Record input place (Fix kind)) =
    IsBuildFault names modules (build.At kind input place)
IsModulesFault names modules _ = ⊥

-- ---- the file, loaded

-- the memory from the paragraph on has, at each address of the written part, the byte that the modules stand for there,
-- and the registers are theirs
pub record HoldsProgram (paragraph : ℕ) (layout : Layout) (modules : List Module) (loaded : Loaded) : Type 0 where
  pub size : length loaded.bytes ≡ written layout modules
  pub bytes : (address : ℕ) → address < written layout modules
      → get_or loaded.bytes address 0 ≡ program_byte paragraph layout modules address
  pub registers : registers paragraph layout modules ≡ loaded.registers

-- The file at any paragraph holds the program of the modules, and where the program fits below 1 MB so does what the
-- file, read and loaded there, gives.
abbrev pub HoldsAtEachParagraph : Names → List Module → (file : List ℕ) → Type 0
HoldsAtEachParagraph names modules file =
    (layout : Layout) × IsPlacedAs names modules (Ok layout)
    × ((paragraph : ℕ) → HoldsProgram paragraph layout modules (loaded paragraph (file_of file))
    × (16 * paragraph + layout.size ≤ 1048576
    → (mz : MzFile) × (loaded : Loaded) × (reading file ≡ Ok mz) × (loading paragraph mz ≡ Ok loaded)
    × HoldsProgram paragraph layout modules loaded))

-- ---- what a link answers

-- the modules that were read, their layout, and their program
pub record IsReport {A : Type 0} (names : Names) (modules : List Module) (report : Report A) : Type 0 where
  pub read : report.modules.items ≡ modules
  pub linked : IsLinked names modules report.layout report.program

module _ {S : Type 0} (told : S → Option (List ℕ)) (failures : S → ℕ) where
  -- all inputs were read as modules of these records
  abbrev pub AllRead : (olds news : List S) → (List Module → Type 0) → Type 0
  AllRead olds news holds =
      (lists : List (List Placed)) × AreInputs told failures lists olds news × holds (map module_of lists)

  -- What a link answers, and what is told of the sources and of the sink before and after. Nothing is written after a
  -- refusal but the sink's own, and then a front of the file.
  abbrev pub Links : {A : Type 0} → Names → (olds news : List S) (wold wnew : Option (List ℕ))
      → Result (Report A) (LinkFault A) → Type 0
  Links names olds news wold wnew (Ok report) =
      AllRead olds news (λ modules. IsReport names modules report
      × ((file : List ℕ) × Mz report.program file × Appends wold wnew file))
  Links names olds news wold wnew (Err link.Output) =
      AllRead olds news (λ modules. (file : List ℕ) × IsFileOf names modules file × AppendsFront wold wnew file)
  Links names olds news wold wnew (Err link.Memory) = StopsForMemory told failures olds news × Keeps wold wnew
  Links names olds news wold wnew (Err fault) =
      (StopsAtRecord told failures olds news fault ⊎ AllRead olds news (λ modules. IsModulesFault names modules fault))
      × Keeps wold wnew

  -- the file that was written holds the program of the inputs' records at each paragraph
  abbrev pub WritesProgram : Names → (olds news : List S) (wold wnew : Option (List ℕ)) → Type 0
  WritesProgram names olds news wold wnew =
      AllRead olds news (λ modules. (file : List ℕ) × Appends wold wnew file × HoldsAtEachParagraph names modules file)
