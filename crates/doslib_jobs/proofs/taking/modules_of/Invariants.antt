use Rattle.std.proofs.Common.{◌≡◌, ◌++◌, [], drop}
use Rattle.std.specs.List.{flat_map}
use Rattle.doslib_words.specs.Words.{texts}
use Rattle.doslib_jobs.specs.Libraries.{modules_in}
use Rattle.doslib_jobs.specs.inside.Libraries.{source_said}
use Rattle.doslib_jobs.proofs.taking.modules_of.Given as goal

abbrev pub invariant-loop-file : goal.invariant-loop-file
invariant-loop-file g l =
    texts l.modules.items ++ flat_map (λ f. modules_in (source_said f)) (drop l.file-index l.fn.files)
    ≡ [] ++ flat_map (λ f. modules_in (source_said f)) l.fn.files
