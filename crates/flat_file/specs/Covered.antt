-- Which bytes of a program data covers (TIS OMF 1.1, LEDATA and LIDATA).
use Rattle.std.specs.Prelude.{ℕ, ◌+◌, ◌==◌, ◌&&◌, Bool, nat_le, nat_lt, if◌then◌else◌, min, fold, List, map, length}
use Rattle.std.specs.List.{list_any}
use Rattle.omf_module.specs.Module.{DataRecord, Module}
use Rattle.omf_place.specs.Layout.{Layout}
use Rattle.omf_image.specs.Records.{OfModule, entries, entry_start, bytes_of}

-- a data record has the byte at an address
abbrev pub covers : Layout → (address : ℕ) → OfModule DataRecord → Bool
covers layout address entry =
    nat_le (entry_start layout entry) address
    && nat_lt address (entry_start layout entry + length (bytes_of entry.item))

-- one of all data records has it
abbrev pub is_covered : Layout → List Module → (address : ℕ) → Bool
is_covered layout modules address = list_any (covers layout address) (entries modules)

-- the end of the memory that a real-mode address reaches
abbrev pub memory_len : ℕ
memory_len = 1048576

-- the address of a data record's first byte, or the memory's end where it has no byte
abbrev pub entry_first : Layout → OfModule DataRecord → ℕ
entry_first layout entry = if length (bytes_of entry.item) == 0 then memory_len else entry_start layout entry

-- the least address that data covers, or the memory's end where there is none
abbrev pub first_covered : Layout → List Module → ℕ
first_covered layout modules = fold min memory_len (map (entry_first layout) (entries modules))
