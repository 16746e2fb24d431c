use Rattle.std.proofs.Common.{◌≡◌, filter, map, take}
use Rattle.std.specs.List.{enumerate_from}
use Rattle.doslink_telling.specs.Duplicates.{is_second}
use Rattle.doslink_telling.specs.inside.Duplicates.{duplicate_said, public_said}
use Rattle.doslink_telling.proofs.duplicates.duplicates.Given as goal

abbrev pub invariant-loop-place : goal.invariant-loop-place
invariant-loop-place g l =
    map duplicate_said l.found.items
    ≡ filter (is_second (map public_said l.fn.publics)) (enumerate_from 0 (map public_said (take l.place l.fn.publics)))
