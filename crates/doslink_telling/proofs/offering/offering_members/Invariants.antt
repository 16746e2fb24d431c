use Rattle.std.proofs.Common.{◌≡◌, ◌++◌, map, drop}
use Rattle.std.specs.List.{enumerate_from, flat_map}
use Rattle.omf_search.specs.Results.{bytes_of}
use Rattle.doslink_telling.specs.Offering as spec
use Rattle.doslink_telling.specs.Offering.{offering_said}
use Rattle.doslink_telling.proofs.offering.offering_members.Given as goal

abbrev pub invariant-loop-file : goal.invariant-loop-file
invariant-loop-file g l = map offering_said l.all.items
    ++ flat_map (spec.offering_in l.fn.names (map (λ w. w.name.now) l.fn.missing)) (enumerate_from l.file (bytes_of (drop l.file l.fn.files)))
    ≡ spec.all_offering l.fn.names (map (λ w. w.name.now) l.fn.missing) (bytes_of l.fn.files)
