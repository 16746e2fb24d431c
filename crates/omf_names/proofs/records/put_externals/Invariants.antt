use Rattle.std.proofs.Common.{◌≡◌, ◌++◌, drop, map}
use Rattle.std.specs.List.{flat_map}
use Rattle.omf_names.specs.Records.{external_record}
use Rattle.omf_names.specs.Views.{names_said}
use Rattle.omf_names.proofs.records.put_externals.Given as goal

abbrev pub invariant-loop-text : goal.invariant-loop-text
invariant-loop-text g l =
    l.out.items ++ flat_map external_record (names_said (drop l.text-index l.fn.texts))
    ≡ l.initial.out.items ++ flat_map external_record (names_said l.fn.texts)
