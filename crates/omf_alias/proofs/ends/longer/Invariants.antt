use Rattle.std.proofs.Common.{◌≡◌, map, take}
use Rattle.omf_alias.specs.inside.Ends.{twice, way_said}
use Rattle.omf_alias.proofs.ends.longer.Given as goal

abbrev pub invariant-loop-way : goal.invariant-loop-way
invariant-loop-way g l =
    map way_said l.further.items
    ≡ map (λ v. twice l.names (map way_said l.ways) (way_said v)) (take l.way-index l.ways)
