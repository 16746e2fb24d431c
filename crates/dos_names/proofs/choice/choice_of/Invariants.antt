use Rattle.std.proofs.Common.{◌≡◌, drop}
use Rattle.std.specs.List.{fold}
use Rattle.dos_names.specs.Names.{choice_of, with_name}
use Rattle.dos_names.proofs.choice.choice_of.Given as goal

abbrev pub invariant-loop-name : goal.invariant-loop-name
invariant-loop-name l = fold (with_name l.wanted) l.choice (drop l.name-index l.names) ≡ choice_of l.wanted l.names
