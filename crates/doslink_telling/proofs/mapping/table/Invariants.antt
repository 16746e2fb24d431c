use Rattle.std.proofs.Common.{◌≡◌, ◌++◌, drop}
use Rattle.std.specs.List.{enumerate_from, flat_map}
use Rattle.omf_search.specs.Results.{bytes_of}
use Rattle.doslink_telling.specs.Table.{module_lines, table}
use Rattle.doslink_telling.proofs.mapping.table.Given as goal

abbrev pub invariant-loop-input : goal.invariant-loop-input
invariant-loop-input g l = l.text.items
    ++ flat_map (module_lines l.fn.layout (bytes_of l.fn.inputs) (bytes_of l.fn.words))
    (enumerate_from l.input (drop l.input l.fn.modules))
    ≡ table l.fn.modules l.fn.layout (bytes_of l.fn.inputs) (bytes_of l.fn.words)
