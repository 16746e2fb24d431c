use Rattle.std.proofs.Common.{◌≡◌, ◌++◌, take}
use Rattle.std.specs.List.{flat_map}
use Rattle.link_map.specs.Publics.{listed}
use Rattle.link_map.specs.inside.Listed.{all_seen}
use Rattle.link_map.proofs.publics.push_publics.Given as goal

abbrev pub invariant-loop-index : goal.invariant-loop-index
invariant-loop-index g l =
    all_seen l.listed.items
    ≡ all_seen l.initial.listed.items ++ flat_map (listed l.layout) (take l.index l.«module».publics)
