-- Files that are wanted, while they are read.
use Rattle.std.specs.Prelude.{◌≡◌, ℕ, true, List, []}
use Rattle.std.specs.declared.option.Option.{Option}
use Rattle.std.specs.BTreeSet.{BTreeSet, contains}
use Rattle.std.specs.declared.cmp.Ordering.{Ordering}
use Rattle.std.specs.List.{Contains}
use Rattle.omf_files.specs.declared.world.FileId.{FileId}
use Rattle.doslink_files.specs.contracts.reading.SoughtOrd.TheImpl.{cmp-value}
use Rattle.doslink_files.specs.declared.reading.Reading.{Reading}
use Rattle.doslink_files.specs.declared.reading.Sought.{Sought}
use Rattle.doslink_files.specs.Files.{AreSought, IsLeftOut, IsModulesPart, contents, is_library}
use Rattle.doslink_files.specs.Standing.{has_file}

-- what is wanted, in the order of a set of it
abbrev pub sought_cmp : Sought → Sought → Ordering
sought_cmp = cmp-value.it

-- each regular file that is known is a library or an archive, of which what is read of it stands among the files
abbrev pub AreKnown : (holds : FileId → Option (List ℕ)) → (files : List (List ℕ)) → BTreeSet FileId → Type 0
AreKnown holds files known = (id : FileId) → has_file known id ≡ true
    → (bytes : List ℕ) × IsModulesPart (holds id) bytes × (is_library bytes ≡ true) × Contains files bytes

-- what was wanted so far was read, unless something isn't; and what is known as a library is left out from now on
abbrev pub IsReading : {A : Type 0} → (told : List ℕ → Option (List ℕ)) → (holds : FileId → Option (List ℕ))
    → (objects libraries : List (List ℕ)) → List Sought → Reading A → Type 0
IsReading told holds objects libraries sought reading =
    (reading.unread.items ≡ [] → AreSought told objects libraries sought (contents reading.files.items))
    × ((one : Sought) → contains sought_cmp reading.libraries one ≡ true
    → IsLeftOut told objects libraries (contents reading.files.items) one)
    × AreKnown holds (contents reading.files.items) reading.known
