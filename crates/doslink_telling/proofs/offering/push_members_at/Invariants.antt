use Rattle.std.proofs.Common.{◌≡◌, ◌++◌, ◌-◌, filter, map, take}
use Rattle.std.specs.BTreeSet.{contains}
use Rattle.std.specs.Ordering.{nat_cmp}
use Rattle.omf_library.specs.Members.{plain_member}
use Rattle.doslink_telling.specs.Offering.{offered, offering_said}
use Rattle.doslink_telling.proofs.offering.push_members_at.Given as goal

abbrev pub invariant-loop-member : goal.invariant-loop-member
invariant-loop-member g l = map offering_said l.all.items
    ≡ map offering_said l.initial.all.items
    ++ map (offered l.fn.file) (filter (λ m. contains nat_cmp l.fn.places (m.place - 60))
    (map plain_member (take l.member-index l.fn.members)))
