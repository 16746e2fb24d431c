use Rattle.std.proofs.Common.{map, take}
use Rattle.omf_library.specs.Members.{plain_member}
use Rattle.doslib_match.specs.inside.Telling.{AddsMembers}
use Rattle.doslib_match.proofs.matching.Told.add_members.Given as goal

abbrev pub invariant-loop-member : goal.invariant-loop-member
invariant-loop-member g l =
    AddsMembers l.fn.sought.wanted l.fn.sought.image.now l.fn.path (map plain_member (take l.member-index l.fn.members)) l.initial.self l.self
