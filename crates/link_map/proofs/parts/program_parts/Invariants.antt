use Rattle.std.proofs.Common.{◌≡◌, ◌++◌, drop}
use Rattle.std.specs.List.{enumerate_from, flat_map}
use Rattle.std.specs.Option.{unwrap_or}
use Rattle.std.specs.Prelude.{[], slice_get}
use Rattle.link_map.specs.Detailed.{module_parts, parts}
use Rattle.link_map.specs.Numbers.{bytes_of}
use Rattle.link_map.specs.inside.Details.{all_parts}
use Rattle.link_map.proofs.parts.program_parts.Given as goal

abbrev pub invariant-loop-input : goal.invariant-loop-input
invariant-loop-input g l = all_parts l.parts.items
    ++ flat_map (λ p. module_parts l.fn.layout (unwrap_or (slice_get (bytes_of l.fn.inputs) p.0) []) p)
    (enumerate_from l.input (drop l.input l.fn.modules))
    ≡ parts l.fn.modules l.fn.layout (bytes_of l.fn.inputs)
