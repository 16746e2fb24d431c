use Rattle.std.proofs.Common.{◌≡◌, ◌++◌, drop}
use Rattle.std.specs.List.{flat_map}
use Rattle.doslib_show.specs.inside.Parts.{part_text, plain_names}
use Rattle.doslib_show.proofs.parts.push_parts.Given as goal

abbrev pub invariant-loop-part : goal.invariant-loop-part
invariant-loop-part g l =
    l.lines.items ++ flat_map (part_text (plain_names l.names)) (drop l.part-index l.parts)
    ≡ l.initial.lines.items ++ flat_map (part_text (plain_names l.names)) l.parts
