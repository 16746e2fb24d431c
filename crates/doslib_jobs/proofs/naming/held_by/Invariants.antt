use Rattle.std.proofs.Common.{◌≡◌, ◌++◌, [], drop, map}
use Rattle.std.specs.List.{flat_map}
use Rattle.doslib_names.specs.Said.{held_said}
use Rattle.doslib_jobs.specs.Libraries.{held_in}
use Rattle.doslib_jobs.specs.inside.Libraries.{source_said}
use Rattle.doslib_jobs.proofs.naming.held_by.Given as goal

abbrev pub invariant-loop-file : goal.invariant-loop-file
invariant-loop-file g l =
    map held_said l.held.items ++ flat_map (λ f. held_in (source_said f)) (drop l.file-index l.fn.files)
    ≡ [] ++ flat_map (λ f. held_in (source_said f)) l.fn.files
