use Rattle.std.proofs.Common.{◌≡◌, ◌++◌, drop}
use Rattle.std.specs.List.{enumerate_from, flat_map}
use Rattle.std.specs.Option.{unwrap_or}
use Rattle.std.specs.Prelude.{[], slice_get}
use Rattle.link_map.specs.Numbers.{bytes_of, module_numbers, number_lines}
use Rattle.link_map.proofs.numbers.program_numbers.Given as goal

abbrev pub invariant-loop-input : goal.invariant-loop-input
invariant-loop-input g l = l.text.items
    ++ flat_map (λ p. module_numbers l.fn.layout
    (unwrap_or (slice_get (bytes_of l.fn.sources.files.now) p.0) [])
    (unwrap_or (slice_get (bytes_of l.fn.sources.inputs.now) p.0) []) p)
    (enumerate_from l.input (drop l.input l.fn.modules))
    ≡ number_lines l.fn.modules l.fn.layout (bytes_of l.fn.sources.inputs.now) (bytes_of l.fn.sources.files.now)
