use Rattle.omf_extended.specs.View.{extended_view}
use Rattle.doslib_show.proofs.Listing.{communals-named}
use Rattle.doslib_show.proofs.names.Names.add_more.Goals as goal

pub returns-in-Comdef : goal.returns-in-Comdef
unfolding extended_view
returns-in-Comdef g c =
    rw (c.in-Comdef.is, communals-named c.in-Comdef.communals.items)
    (rw c.deref.ensures.value at c.add_communals.ensures)
