-- Answers of the program without where their bytes lie in memory.
use Rattle.std.specs.Prelude.{ℕ, List, Ok, Err}
use Rattle.std.specs.declared.result.Result.{Result}
use Rattle.std.specs.Borrow.{Bor}
use Rattle.omf_communal.specs.declared.declarations.Entry as lent
use Rattle.omf_communal.specs.declared.declarations.Extent.{Extent}
use Rattle.omf_communal.specs.declared.fault.EntryFault.{EntryFault}
use Rattle.omf_communal.specs.Entries.{Entry}

-- an extent, and the bytes behind it
abbrev pub extent_said : Result (Extent × Bor (List ℕ)) EntryFault → Result (Extent × List ℕ) EntryFault
extent_said (Ok (extent, rest)) = Ok (extent, rest.now)
extent_said (Err fault) = Err fault

-- an entry
abbrev pub plain_entry : lent.Entry → Entry
plain_entry e = record { name = e.name.now; extent = e.extent; rest = e.rest.now }

abbrev pub entry_said : Result lent.Entry EntryFault → Result Entry EntryFault
entry_said (Ok e) = Ok (plain_entry e)
entry_said (Err fault) = Err fault
