use Rattle.std.proofs.Common.{◌≡◌, map, take}
use Rattle.std.specs.List.{enumerate_from, flat_map}
use Rattle.omf_search.specs.declared.likeness.Whose.TheVariants as whose
use Rattle.omf_search.specs.Likeness.{offered_names, offered_of}
use Rattle.omf_search.specs.Results.{member_said, module_said, offered_said}
use Rattle.omf_search.proofs.likeness.offered_names.Given as goal

abbrev pub invariant-loop-index : goal.invariant-loop-index
invariant-loop-index g l =
    map offered_said l.offered.items
    ≡ flat_map (λ p. offered_of (whose.Module p.0) p.1) (enumerate_from 0 (map module_said (take l.index l.modules)))

abbrev pub invariant-loop-member : goal.invariant-loop-member
invariant-loop-member g l =
    map offered_said l.offered.items
    ≡ offered_names (map module_said l.fn.modules) (map member_said (take l.member-index l.members))
