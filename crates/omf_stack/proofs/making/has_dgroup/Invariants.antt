use Rattle.std.proofs.Common.{◌≡◌, false, take}
use Rattle.omf_stack.specs.Answer.{has_dgroup}
use Rattle.omf_stack.proofs.making.has_dgroup.Given as goal

abbrev pub invariant-loop-each : goal.invariant-loop-each
invariant-loop-each g l = has_dgroup (take l.each-index l.modules) ≡ false
