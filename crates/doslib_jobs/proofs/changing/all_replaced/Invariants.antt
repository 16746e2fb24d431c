use Rattle.std.proofs.Common.{◌≡◌, drop}
use Rattle.doslib_words.specs.Words.{texts}
use Rattle.doslib_jobs.specs.Libraries.{all_replaced}
use Rattle.doslib_jobs.proofs.changing.all_replaced.Given as goal

abbrev pub invariant-loop-module : goal.invariant-loop-module
invariant-loop-module g l =
    all_replaced (texts l.left.items) (texts (drop l.module-index l.more))
    ≡ all_replaced (texts l.members) (texts l.more)
