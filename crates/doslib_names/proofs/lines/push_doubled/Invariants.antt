use Rattle.std.proofs.Common.{◌≡◌, ◌++◌, drop, map}
use Rattle.std.specs.List.{flat_map}
use Rattle.doslib_names.specs.Lines.{doubled_line}
use Rattle.doslib_names.specs.Said.{held_said}
use Rattle.doslib_names.specs.inside.First.{doubled_said}
use Rattle.doslib_names.proofs.lines.push_doubled.Given as goal

abbrev pub invariant-loop-name : goal.invariant-loop-name
invariant-loop-name g l =
    l.text.items
    ++ flat_map (λ d. doubled_line (map held_said l.fn.modules) (doubled_said d)) (drop l.name-index l.fn.doubled)
    ≡ l.initial.text.items
    ++ flat_map (λ d. doubled_line (map held_said l.fn.modules) (doubled_said d)) l.fn.doubled
