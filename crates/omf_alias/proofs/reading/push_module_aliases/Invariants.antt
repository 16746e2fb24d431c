use Rattle.std.proofs.Common.{◌≡◌, ◌++◌, map, take}
use Rattle.omf_frame.specs.Lending.{plain_frame}
use Rattle.omf_alias.specs.Reading.{aliases_of}
use Rattle.omf_alias.specs.Said.{aliases_said}
use Rattle.omf_alias.proofs.reading.push_module_aliases.Given as goal

abbrev pub invariant-loop-frame : goal.invariant-loop-frame
invariant-loop-frame g l =
    aliases_said l.aliases.items
    ≡ aliases_said l.initial.aliases.items ++ aliases_of (map plain_frame (take l.frame-index l.frame-items))
