-- Files that are taken, of which some are known.
use Rattle.std.specs.Prelude.{◌≡◌, ℕ, IfSome, List, string_bytes, true}
use Rattle.std.specs.declared.option.Option.{Option}
use Rattle.std.specs.BTreeSet.{BTreeSet}
use Rattle.omf_files.specs.declared.world.FileId.{FileId}
use Rattle.doslink_files.specs.declared.taking.Taken.{Taken}
use Rattle.doslink_files.specs.declared.taking.Taken.TheVariants.{New, Known}
use Rattle.doslink_files.specs.Files.{IsModulesPart}
use Rattle.doslink_files.specs.Standing.{has_file}

-- This holds of the path and the bytes of what is taken: of a file that was read, and of one that is known, whose bytes
-- are those of a regular file.
abbrev pub IsTaken : {A : Type 0} → (Is : (path bytes : List ℕ) → Type 0) → (holds : FileId → Option (List ℕ))
    → (known : BTreeSet FileId) → Taken A → Type 0
IsTaken Is holds known (New file regular) =
    Is (string_bytes file.path) file.bytes.items × IfSome regular (λ id. IsModulesPart (holds id) file.bytes.items)
IsTaken Is holds known (Known id) =
    (has_file known id ≡ true) × (path : List ℕ) × ((bytes : List ℕ) → IsModulesPart (holds id) bytes → Is path bytes)
