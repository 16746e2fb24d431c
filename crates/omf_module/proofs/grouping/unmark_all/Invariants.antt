use Rattle.std.proofs.Common.{◌≡◌, drop}
use Rattle.omf_module.specs.inside.Grouping.{unmarked}
use Rattle.omf_module.proofs.grouping.unmark_all.Given as goal

-- those that are left take the rest away
abbrev pub invariant-loop-number : goal.invariant-loop-number
invariant-loop-number l = unmarked (drop l.number-index l.numbers) l.marks ≡ unmarked l.numbers l.fn.marks
