use Rattle.omf_librarian.proofs.Changes.{deleted_is}
use Rattle.omf_librarian.proofs.changing.deleted.Goals as goal

pub returns : goal.returns
returns g c =
    deleted_is c.args.members.now c.in_ok-left.left.items c.extend_from_slice.new.self.items c.in-Some.index
    c.args.name.now c.in-Some.ensures.said c.in_ok-left.ensures.items c.in_ok-extend_from_slice.ensures.items
