use Rattle.std.proofs.Common.{◌≡◌, map, take}
use Rattle.omf_alias.specs.inside.Ends.{way_said}
use Rattle.omf_alias.proofs.Ways.{alias_way}
use Rattle.omf_alias.proofs.ends.first_ways.Given as goal

abbrev pub invariant-loop-alias : goal.invariant-loop-alias
invariant-loop-alias g l = map way_said l.ways.items ≡ map alias_way (take l.alias-index l.aliases)
