use Rattle.std.proofs.Common.{◌≡◌, ◌++◌, drop}
use Rattle.std.specs.List.{flat_map}
use Rattle.omf_library.specs.Members.{plain_member}
use Rattle.doslib_text.specs.Listing.{member_text}
use Rattle.doslib_text.proofs.listing.push_members.Given as goal

abbrev pub invariant-loop-member : goal.invariant-loop-member
invariant-loop-member g l =
    l.lines.items ++ flat_map (λ m. member_text (plain_member m)) (drop l.member-index l.fn.members)
    ≡ l.initial.lines.items ++ flat_map (λ m. member_text (plain_member m)) l.fn.members
