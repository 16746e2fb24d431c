use Rattle.std.proofs.Common.{◌≡◌, map, take}
use Rattle.std.specs.List.{flat_map}
use Rattle.omf_frame.specs.Lending.{plain_frame}
use Rattle.omf_lines.specs.Lines.{lines_in}
use Rattle.omf_lines.proofs.reading.lines_of.Given as goal

abbrev pub invariant-loop-frame : goal.invariant-loop-frame
invariant-loop-frame g l = l.lines.items ≡ flat_map lines_in (map plain_frame (take l.frame-index l.frames))
