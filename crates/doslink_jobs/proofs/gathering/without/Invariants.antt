use Rattle.std.proofs.Common.{◌≡◌, List, filter, not}
use Rattle.clap.specs.Words.{Text}
use Rattle.doslink_jobs.specs.Jobs.{is_left_out}
use Rattle.doslink_jobs.specs.inside.Gathering.{AreStemsOf}
use Rattle.doslink_jobs.proofs.gathering.without.Given as goal

abbrev pub invariant-loop-library : goal.invariant-loop-library
invariant-loop-library g l = (names : List Text) → AreStemsOf names l.fn.left_out
    → l.kept.items ≡ filter (λ l. not (is_left_out names l.name.now)) l.yielded
