use Rattle.std.proofs.Common.{◌≡◌, ◌++◌, List, drop}
use Rattle.std.specs.List.{flat_map}
use Rattle.doslink_telling.specs.Duplicates.{Public, duplicate_line}
use Rattle.doslink_telling.specs.inside.Duplicates.{IsIndex, duplicate_said}
use Rattle.omf_search.specs.Results.{bytes_of}
use Rattle.doslink_telling.proofs.duplicates.push_told.Given as goal

abbrev pub invariant-loop-each : goal.invariant-loop-each
invariant-loop-each g l = (all : List Public) → IsIndex all l.fn.places
    → l.lines.items
    ++ flat_map (λ d. duplicate_line (bytes_of l.fn.words) all l.fn.tells_all (duplicate_said d)) (drop l.each-index l.fn.told)
    ≡ l.initial.lines.items ++ flat_map (λ d. duplicate_line (bytes_of l.fn.words) all l.fn.tells_all (duplicate_said d)) l.fn.told
