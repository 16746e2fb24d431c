use Rattle.std.proofs.Common.{◌≡◌, ◌++◌, ◌-◌, ◌*◌, map, min}
use Rattle.std.specs.List.{range_with_len}
use Rattle.omf_communal.specs.inside.Planned.{parts_said}
use Rattle.omf_communal.proofs.planning.push_parts.Given as goal

abbrev pub invariant-loop-part : goal.invariant-loop-part
invariant-loop-part g l =
    parts_said l.parts.items
    ≡ parts_said l.initial.parts.items ++ map (λ k. min 65536 (l.bytes - 65536 * k)) (range_with_len 0 l.part)
