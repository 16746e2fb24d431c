-- The modules of a link, with the places of the records that ask for names first.
use Rattle.doslink_stock.specs.Files.{Held}
use Rattle.doslink_stock.specs.Seen.{entry_held}
use Rattle.doslink_telling.specs.declared.wanting.Wanter.{Wanter}

-- the module
abbrev pub wanter_held : {A : Type 0} → Wanter A → Held
wanter_held w = entry_held w.entry.now
