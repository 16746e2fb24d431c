-- What all data records of a program say together.
use Rattle.std.specs.Prelude.{ℕ, ◌+◌, ◌-◌, ◌||◌, Bool, List, [], map, get_or}
use Rattle.std.specs.List.{list_any}
use Rattle.std.specs.declared.option.Option.{Option}
use Rattle.omf_module.specs.Module.{Module}
use Rattle.omf_place.specs.Layout.{Layout}
use Rattle.omf_image.specs.declared.faults.FixFault.{FixFault}
use Rattle.omf_image.specs.Located.{LocatedBytes, covers, in_page}
use Rattle.omf_image.specs.Records.{datum, entries}
use Rattle.omf_image.specs.Faults.{records_fault}

-- the byte that data has at an address which it covers
abbrev pub byte_of : (address : ℕ) → LocatedBytes → ℕ
byte_of address datum = get_or datum.bytes (address - datum.start) 0

-- data covers a byte of one of the words
abbrev pub covers_word : LocatedBytes → (words : List ℕ) → Bool
covers_word datum words = list_any (λ w. covers w datum || covers (w + 1) datum) words

-- data covers a byte of the page
abbrev pub page_covered : Layout → List Module → (page : ℕ) → Bool
page_covered layout modules page = list_any (in_page page) (map (datum 0 layout) (entries modules))

-- the first fault of all data records
abbrev pub data_fault : Layout → List Module → Option FixFault
data_fault layout modules = records_fault layout [] (entries modules)
