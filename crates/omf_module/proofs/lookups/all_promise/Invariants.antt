use Rattle.std.proofs.Common.{ℕ, ◌<◌, slice_index_or}
use Rattle.omf_module.specs.Module.{Module}
use Rattle.omf_module.specs.Sound.{IsSound}
use Rattle.omf_module.proofs.lookups.all_promise.Given as goal

abbrev pub invariant-loop-each : goal.invariant-loop-each
invariant-loop-each g l = (k : ℕ) (d : Module) → k < l.each-index → IsSound (slice_index_or l.modules k d)
