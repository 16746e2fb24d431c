-- What was read at a path that is looked up.
use Rattle.std.specs.Prelude.{◌≡◌, ℕ, List, string_bytes}
use Rattle.std.specs.declared.option.Option.{Option}
use Rattle.doslink_files.specs.declared.lookup.Found.{Found}
use Rattle.doslink_files.specs.declared.lookup.Found.TheVariants.{New, Known}
use Rattle.doslink_files.specs.Files.{IsModulesPart}

-- this is the file at the path, up to the end of its modules, where it is new
abbrev pub IsReadNew : {A : Type 0} → (told : List ℕ → Option (List ℕ)) → (path : List ℕ) → Found A → Type 0
IsReadNew told path (New file) = (string_bytes file.path ≡ path) × IsModulesPart (told path) file.bytes.items
IsReadNew told path Known = Unit {0}
