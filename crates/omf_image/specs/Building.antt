-- What linking makes of modules and their layout.
use Rattle.std.specs.Prelude.{◌≡◌, ℕ, ◌+◌, ◌≤◌, ◌<◌, false, All, List, length, map, get_or, Option, Some, None, Result}
use Rattle.std.specs.Prelude.{Ok, Err}
use Rattle.std.specs.List.{list_any}
use Rattle.omf_module.specs.Module.{Module}
use Rattle.omf_place.specs.Layout.{Layout}
use Rattle.omf_image.specs.declared.faults.FixFault.{FixFault}
use Rattle.omf_image.specs.declared.faults.FixFault.TheVariants.{At, TooManyRelocations, Memory}
use Rattle.omf_image.specs.Program.{Program}
use Rattle.omf_image.specs.Words.{add_words}
use Rattle.omf_image.specs.Located.{in_page}
use Rattle.omf_image.specs.Records.{datum, entries, program_byte, relocations, written}
use Rattle.omf_image.specs.Registers.{registers, moved, program_fault}

-- At each paragraph P the image with P added to the words at the relocations is the located program, and the registers
-- are those of the program with P added to CS and SS. The written part ends behind the last byte that data covers, and
-- each relocated word lies in it. A page was made exactly where data covers a byte of it.
pub record IsProgramOf (layout : Layout) (modules : List Module) (p : Program) : Type 0 where
  pub sized : length p.image ≡ layout.size
  pub written : p.written ≡ written layout modules
  pub everywhere : (P a : ℕ) → a < layout.size
      → get_or (add_words P p.relocations p.image) a 0 ≡ program_byte P layout modules a
  pub listed : p.relocations ≡ relocations layout modules
  pub below : All (λ r. r + 2 ≤ p.written) p.relocations
  pub at_zero : registers 0 layout modules ≡ p.registers
  pub at_each : (P : ℕ) → registers P layout modules ≡ moved P p.registers
  pub pages : (k : ℕ) → get_or p.made k false ≡ list_any (in_page k) (map (datum 0 layout) (entries modules))

-- what holds where a step succeeded; else it answered the fault, or memory ran out
abbrev pub Answers : {X : Type 0} → Result X FixFault → (fault : Option FixFault) → (holds : X → Type 0) → Type 0
Answers (Ok x) fault holds = holds x
Answers (Err Memory) fault holds = Unit {0}
Answers (Err (At kind input place)) fault holds = fault ≡ Some (At kind input place)
Answers (Err TooManyRelocations) fault holds = fault ≡ Some TooManyRelocations

-- the program, where no fault stands; else the first fault. Memory may run out
abbrev pub Builds : Layout → List Module → Result Program FixFault → Type 0
Builds layout modules result =
    Answers result (program_fault layout modules)
    (λ p. (program_fault layout modules ≡ None) × IsProgramOf layout modules p)
