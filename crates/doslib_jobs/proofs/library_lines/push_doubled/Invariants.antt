use Rattle.std.proofs.Common.{◌≡◌, ◌++◌, drop}
use Rattle.std.specs.List.{flat_map}
use Rattle.omf_library.specs.Names.{texts}
use Rattle.omf_librarian.specs.Said.{doubled_said}
use Rattle.doslib_jobs.specs.LibraryLines.{doubled_line}
use Rattle.doslib_jobs.proofs.library_lines.push_doubled.Given as goal

abbrev pub invariant-loop-name : goal.invariant-loop-name
invariant-loop-name g l =
    l.lines.items
    ++ flat_map (λ d. doubled_line l.fn.path (texts l.fn.modules) (doubled_said d)) (drop l.name-index l.fn.doubled)
    ≡ l.initial.lines.items
    ++ flat_map (λ d. doubled_line l.fn.path (texts l.fn.modules) (doubled_said d)) l.fn.doubled
