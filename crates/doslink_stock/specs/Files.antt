-- The modules that files hold: an object file is one module, and a library or an archive has its members.
use Rattle.std.specs.Prelude.{◌≡◌, ℕ, ◌+◌, Bool, true, false, if◌then◌else◌, List, [], ◌∷◌, ◌++◌, map}
use Rattle.std.specs.Prelude.{Some, None, Ok, Err}
use Rattle.std.specs.declared.option.Option.{Option}
use Rattle.std.specs.declared.result.Result.{Result}
use Rattle.omf_library.specs.declared.fault.LibraryFault.{LibraryFault}
use Rattle.omf_library.specs.declared.fault.LibraryFault.TheVariants as library
use Rattle.omf_library.specs.declared.files.FileKind.{FileKind}
use Rattle.omf_library.specs.declared.files.FileKind.TheVariants as kind
use Rattle.omf_library.specs.Files.{file_kind, members_of}
use Rattle.omf_library.specs.Members.{PlainMember, joined}
use Rattle.omf_library.specs.Aliases.{aliases_of}
use Rattle.omf_library.specs.Names.{wanted_names, needed_names, external_names, offered_names, communal_names}
use Rattle.omf_library.specs.Names.{library_names, asks_dosseg}
use Rattle.omf_library.specs.Records.{module_records}
use Rattle.omf_search.specs.Said.{Module}
use Rattle.doslink_stock.specs.declared.fault.StockFault.{StockFault}
use Rattle.doslink_stock.specs.declared.fault.StockFault.TheVariants as stock

-- a module of a file: the index of the file, the member's name where it is one, its bytes, what it says of names, those
-- that it needs, the default libraries that it names, and whether it asks for the DOSSEG order
pub record Held : Type 0 where
  pub file : ℕ
  pub name : Option (List ℕ)
  pub bytes : List ℕ
  pub says : Module
  pub needed : List (List ℕ)
  pub libraries : List (List ℕ)
  pub dosseg : Bool

-- the module of these bytes in the file with this index, and its name there
unfoldable pub held : (file : ℕ) → (name : Option (List ℕ)) → (bytes : List ℕ) → Held
held file name bytes = record {
  file = file;
  name = name;
  bytes = bytes;
  says = record {
    wanted = wanted_names (module_records bytes 0);
    externals = external_names (module_records bytes 0);
    offered = offered_names (module_records bytes 0);
    communals = communal_names (module_records bytes 0);
    aliases = aliases_of (module_records bytes 0);
  };
  needed = needed_names (module_records bytes 0);
  libraries = library_names (module_records bytes 0);
  dosseg = asks_dosseg (module_records bytes 0);
}

-- what a module says of names once no more are looked for: of those that it wants the ones that it needs
abbrev pub needs : Held → Module
needs m = record {
  wanted = m.needed;
  externals = m.says.externals;
  offered = m.says.offered;
  communals = m.says.communals;
  aliases = m.says.aliases;
}

-- a file of this kind is an object module
abbrev pub is_object : FileKind → Bool
is_object kind.Object = true
is_object kind.Library = false
is_object kind.Archive = false

-- the module of an object file, and none of another
unfoldable pub object_in : (file : ℕ) → (bytes : List ℕ) → List Held
object_in file bytes = if is_object (file_kind bytes) then held file None bytes ∷ [] else []

-- the modules of the object files, the first file having this index
abbrev pub objects_from : ℕ → (files : List (List ℕ)) → List Held
objects_from file [] = []
objects_from file (bytes ∷ files) = object_in file bytes ++ objects_from (file + 1) files

-- a fault in a library, as one of the file with this index
abbrev pub fault_of : ℕ → LibraryFault → StockFault
fault_of file (library.Malformed place fault) = stock.Library file place fault
fault_of file library.Memory = stock.Memory

-- the members of the file with this index, or its fault
abbrev pub held_members : ℕ → Result (List PlainMember) LibraryFault → Result (List Held) StockFault
held_members file (Ok members) = Ok (map (λ m. held file (Some m.name) m.bytes) members)
held_members file (Err fault) = Err (fault_of file fault)

-- the members of a file that is a library or an archive, and none of an object file; or the file's first fault
unfoldable pub members_in : (file : ℕ) → (bytes : List ℕ) → Result (List Held) StockFault
members_in file bytes =
    if is_object (file_kind bytes) then Ok [] else held_members file (members_of (file_kind bytes) bytes)

-- those of two answers, or the first fault
abbrev pub both : Result (List Held) StockFault → Result (List Held) StockFault → Result (List Held) StockFault
both (Ok members) others = joined members others
both (Err fault) others = Err fault

-- the members of the libraries and archives, the first file having this index; or the first fault
abbrev pub members_from : ℕ → (files : List (List ℕ)) → Result (List Held) StockFault
members_from file [] = Ok []
members_from file (bytes ∷ files) = both (members_in file bytes) (members_from (file + 1) files)

-- the same of all files, in their order
abbrev pub members : (files : List (List ℕ)) → Result (List Held) StockFault
members files = members_from 0 files

-- the fault is that one, unless it is want of memory
abbrev pub IsFault : StockFault → Result (List Held) StockFault → Type 0
IsFault stock.Memory stands = Unit {0}
IsFault (stock.Library file place fault) stands = stands ≡ Err (stock.Library file place fault)
