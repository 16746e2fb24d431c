use Rattle.std.proofs.Common.{◌≡◌, map, take}
use Rattle.std.specs.List.{flat_map}
use Rattle.omf_frame.specs.Lending.{plain_frame}
use Rattle.link_map.specs.Detailed.{attribute_byte}
use Rattle.link_map.proofs.parts.attribute_bytes.Given as goal

abbrev pub invariant-loop-frame : goal.invariant-loop-frame
invariant-loop-frame g l =
    l.attributes.items ≡ flat_map attribute_byte (map plain_frame (take l.frame-index l.frames))
