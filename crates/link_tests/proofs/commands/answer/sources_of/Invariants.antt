use Rattle.std.proofs.Common.{◌<◌, ◌-◌, ◌^◌, All}
use Rattle.link_tests.proofs.commands.answer.sources_of.Given as goal

abbrev pub invariant-loop-bytes : goal.invariant-loop-bytes
invariant-loop-bytes l = All (λ s. s.failures < 2 ^ 64 - 1) l.sources.items
