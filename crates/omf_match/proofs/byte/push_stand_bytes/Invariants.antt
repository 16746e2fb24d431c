use Rattle.std.proofs.Common.{◌≡◌, ◌++◌, drop}
use Rattle.std.specs.List.{flat_map}
use Rattle.omf_match.specs.Byte.{stand_byte_line}
use Rattle.omf_match.proofs.byte.push_stand_bytes.Given as goal

abbrev pub invariant-loop-stand : goal.invariant-loop-stand
invariant-loop-stand g l =
    l.lines.items ++ flat_map (stand_byte_line l.fn.from l.fn.address) (drop l.stand-index l.fn.stands)
    ≡ l.initial.lines.items ++ flat_map (stand_byte_line l.fn.from l.fn.address) l.fn.stands
