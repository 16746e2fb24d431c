use Rattle.std.proofs.Common.{◌≡◌, map, take}
use Rattle.omf_alias.specs.Told.{end_said}
use Rattle.omf_alias.specs.inside.Ends.{way_said}
use Rattle.omf_alias.proofs.Ways.{way_told}
use Rattle.omf_alias.proofs.ends.ends_of.Given as goal

abbrev pub invariant-loop-way : goal.invariant-loop-way
invariant-loop-way g l =
    map end_said l.ends.items ≡ map (way_told l.names (map way_said l.way-items)) (take l.way-index l.way-items)
