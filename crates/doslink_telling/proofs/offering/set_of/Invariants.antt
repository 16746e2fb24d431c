use Rattle.std.proofs.Common.{map, take}
use Rattle.omf_place.specs.Names.{spelled}
use Rattle.doslink_telling.specs.inside.Tables.{IsSetOf}
use Rattle.doslink_telling.proofs.offering.set_of.Given as goal

abbrev pub invariant-loop-wanted : goal.invariant-loop-wanted
invariant-loop-wanted g l = IsSetOf (map (λ w. spelled l.fn.names w.name.now) (take l.wanted-index l.fn.missing)) l.set
