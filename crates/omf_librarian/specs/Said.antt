-- What the program answers, without where it lies in memory.
use Rattle.std.specs.Prelude.{List, map}
use Rattle.omf_librarian.specs.declared.library.Library as lent_library
use Rattle.omf_librarian.specs.declared.naming.Doubled as lent
use Rattle.omf_librarian.specs.Naming.{Doubled}
use Rattle.omf_librarian.specs.Library.{PlainLibrary}

-- a name that more than one member has
abbrev pub doubled_said : {A : Type 0} → lent.Doubled A → Doubled
doubled_said d = record { name = d.name.items; first = d.first; second = d.second }

-- a library
abbrev pub library_said : {A : Type 0} → lent_library.Library A → PlainLibrary
library_said l = record { bytes = l.bytes.items; doubled = map doubled_said l.doubled.items }
