use Rattle.std.proofs.Common.{◌≡◌, ◌++◌, map, take}
use Rattle.omf_library.specs.Members.{plain_member}
use Rattle.doslib_names.specs.Said.{held_said}
use Rattle.doslib_jobs.specs.Libraries.{held_as}
use Rattle.doslib_jobs.proofs.naming.push_members.Given as goal

abbrev pub invariant-loop-member : goal.invariant-loop-member
invariant-loop-member g l =
    map held_said l.held.items
    ≡ map held_said l.initial.held.items
    ++ map (λ m. held_as l.fn.path l.fn.kind (plain_member m)) (take l.member-index l.fn.members)
