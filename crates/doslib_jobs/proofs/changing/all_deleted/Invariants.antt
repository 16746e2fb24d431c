use Rattle.std.proofs.Common.{◌≡◌, drop}
use Rattle.doslib_words.specs.Words.{texts}
use Rattle.doslib_jobs.specs.Libraries.{all_deleted}
use Rattle.doslib_jobs.proofs.changing.all_deleted.Given as goal

abbrev pub invariant-loop-name : goal.invariant-loop-name
invariant-loop-name g l =
    all_deleted (texts (drop l.name-index l.names)) (texts l.left.items) ≡ all_deleted (texts l.names) (texts l.members)
