use Rattle.std.proofs.Common.{◌≡◌, ◌++◌, drop}
use Rattle.std.specs.List.{flat_map}
use Rattle.doslink_jobs.specs.inside.Absent.{absent_warning, library_said}
use Rattle.doslink_jobs.proofs.gathering.push_told.Given as goal

abbrev pub invariant-loop-library : goal.invariant-loop-library
invariant-loop-library g l =
    l.lines.items ++ flat_map (λ one. absent_warning (library_said one)) (drop l.library-index l.fn.told)
    ≡ l.initial.lines.items ++ flat_map (λ one. absent_warning (library_said one)) l.fn.told
