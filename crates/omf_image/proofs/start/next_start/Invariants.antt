use Rattle.std.proofs.Common.{◌≡◌, drop}
use Rattle.omf_image.specs.inside.Entries.{starts_from}
use Rattle.omf_image.proofs.start.next_start.Given as goal

abbrev pub invariant-loop-input : goal.invariant-loop-input
invariant-loop-input g l = starts_from l.input (drop l.input l.modules) ≡ starts_from l.from (drop l.from l.modules)
