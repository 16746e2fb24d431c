use Rattle.std.proofs.Common.{◌≡◌, map, drop}
use Rattle.omf_module.specs.inside.Contents as spans
use Rattle.omf_module.specs.inside.Contents.{pair}
use Rattle.omf_module.proofs.contents.lies_in.Given as goal

-- those that are left decide
abbrev pub invariant-loop-content : goal.invariant-loop-content
invariant-loop-content l =
    spans.lies_in (map pair (drop l.content-index l.contents)) l.at l.width
    ≡ spans.lies_in (map pair l.contents) l.at l.width
