use Rattle.std.proofs.Common.{length, map, take}
use Rattle.omf_library.specs.Members.{plain_member}
use Rattle.doslib_text.specs.Listing.{title}
use Rattle.doslib_show.proofs.Reading.{MembersSoFar}
use Rattle.doslib_show.proofs.showing.show.Given as goal

abbrev pub invariant-loop-member : goal.invariant-loop-member
invariant-loop-member g l =
    MembersSoFar l.path (title l.fn.kind l.path (length l.members)) (map plain_member (take l.member-index l.members))
    l.shown
