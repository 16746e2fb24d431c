-- What calls answer, as the definitions say it.
use Rattle.std.specs.Option.{option_copied}
use Rattle.omf_search.specs.Results.{bytes_of, names_said}
use Rattle.doslink_stock.specs.declared.stock.Entry.{Entry}
use Rattle.doslink_stock.specs.declared.searching.Handed.{Handed}
use Rattle.doslink_stock.specs.Files.{Held}
use Rattle.doslink_stock.specs.Search.{TakenFor}

-- a module of a file
abbrev pub entry_held : {A : Type 0} → Entry A → Held
entry_held e = record {
  file = e.file;
  name = option_copied e.member;
  bytes = e.bytes.now;
  says = names_said e.says;
  needed = bytes_of e.says.needed.items;
  libraries = bytes_of e.says.libraries.items;
  dosseg = e.says.dosseg;
}

-- a module that is linked
abbrev pub handed_held : {A : Type 0} → Handed A → Held
handed_held h = entry_held h.entry.now

-- the same, and the name for which it was taken
abbrev pub handed_taken : {A : Type 0} → Handed A → TakenFor
handed_taken h = record { held = handed_held h; wanted = option_copied h.wanted }
