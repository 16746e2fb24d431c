-- Fates as the code tells them.
use Rattle.std.specs.Prelude.{◌≡◌, List, map, Ok, Err}
use Rattle.std.specs.declared.result.Result.{Result}
use Rattle.std.specs.Prelude.{Vec}
use Rattle.omf_comdat.specs.Comdats.{ComdatRecord, records_said}
use Rattle.omf_comdat.specs.Fates.{Clash}
use Rattle.omf_comdat.specs.declared.fate.ComdatFate.{ComdatFate}
use Rattle.omf_comdat.specs.declared.fault.ComdatClash.{ComdatClash}
use Rattle.omf_comdat.specs.declared.fault.ComdatFault.{ComdatFault}
use Rattle.omf_comdat.specs.declared.fault.ComdatFault.TheVariants as fault
use Rattle.omf_comdat.specs.declared.records.ComdatRecord as lent

-- the records of modules
abbrev pub modules_said : {A : Type 0} → List (Vec lent.ComdatRecord A) → List (List ComdatRecord)
modules_said ms = map (λ m. records_said m.items) ms

-- a clash without where its name lies in memory
abbrev pub clash_said : ComdatClash → Clash
clash_said c = record { name = c.name.now; first = c.first; other = c.other; differ = c.differ }

-- these fates are those
abbrev pub AreFates : {A : Type 0} → List (Vec ComdatFate A) → Result (List (List ComdatFate)) Clash → Type 0
AreFates told stands = stands ≡ Ok (map (λ fates. fates.items) told)

-- the clash is that one, unless it is want of memory
abbrev pub IsClash : {R : Type 0} → ComdatFault → Result R Clash → Type 0
IsClash (fault.Clash c) stands = stands ≡ Err (clash_said c)
IsClash fault.Memory stands = Unit {0}
