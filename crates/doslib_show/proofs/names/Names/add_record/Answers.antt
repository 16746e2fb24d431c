use Rattle.omf_record.specs.View.{view}
use Rattle.doslib_show.proofs.Listing.{externals-named}
use Rattle.doslib_show.proofs.names.Names.add_record.Goals as goal

pub returns-in-Extdef : goal.returns-in-Extdef
unfolding view
returns-in-Extdef g c =
    rw (c.in-Extdef.is, externals-named c.in-Extdef.names.items)
    (rw c.deref-in-Extdef.ensures.value at c.add_externals.ensures)
