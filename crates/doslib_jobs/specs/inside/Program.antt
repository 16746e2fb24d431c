-- What is found in a file.
use Rattle.std.specs.Prelude.{◌≡◌, ℕ, ◌-◌, List, length, Ok, Err}
use Rattle.std.specs.declared.option.Option.{Option}
use Rattle.std.specs.declared.result.Result.{Result}
use Rattle.mz.specs.declared.fault.FileFault.{FileFault}
use Rattle.mz.specs.declared.fault.MzFault.{MzFault}
use Rattle.mz.specs.declared.fault.MzFault.TheVariants.{File, Memory}
use Rattle.mz.specs.File.{MzFile}
use Rattle.mz.specs.Header.{told_len}
use Rattle.doslib_jobs.specs.declared.program.Found.{Found}
use Rattle.doslib_jobs.specs.declared.program.Held.{Held}
use Rattle.doslib_jobs.specs.declared.program.Held.TheVariants.{Program, Ends}
use Rattle.doslib_jobs.specs.Program.{HasNoProgram, HasProgram, IsAtFault}
use Rattle.doslib_jobs.specs.inside.Running.{said}

-- the program, and what stands behind it; or its fault, unless there was no memory
abbrev pub Finds : {A : Type 0} → (bytes : List ℕ) → Result (Found A) MzFault → Result MzFile FileFault → Type 0
Finds bytes (Ok found) expected =
    (expected ≡ Ok found.program) × (found.behind ≡ length bytes - told_len found.program.header)
Finds bytes (Err (File fault)) expected = expected ≡ Err fault
Finds bytes (Err Memory) expected = Unit {0}

-- the program of a file that holds it, or the answer of one that is at fault
abbrev pub HoldsIn : {A : Type 0} → (path : List ℕ) → Result MzFile FileFault → Held A → Type 0
HoldsIn path expected (Program program) = expected ≡ Ok program
HoldsIn path expected (Ends outcome) = (fault : FileFault) × (expected ≡ Err fault) × IsAtFault path fault (said outcome)

-- the same of the file at a path
abbrev pub Holds : {A : Type 0} → (told : List ℕ → Option (List ℕ)) → (path : List ℕ) → Held A → Type 0
Holds told path (Program program) = HasProgram told path program
Holds told path (Ends outcome) = HasNoProgram told path (said outcome)
