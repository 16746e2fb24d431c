use Rattle.std.proofs.Common.{◌≡◌, ◌++◌, drop, map}
use Rattle.std.specs.List.{flat_map}
use Rattle.omf_names.specs.Records.{alias_record}
use Rattle.omf_names.specs.Views.{aliases_said}
use Rattle.omf_names.proofs.records.put_aliases.Given as goal

abbrev pub invariant-loop-alias : goal.invariant-loop-alias
invariant-loop-alias g l =
    l.out.items ++ flat_map alias_record (aliases_said (drop l.alias-index l.fn.aliases))
    ≡ l.initial.out.items ++ flat_map alias_record (aliases_said l.fn.aliases)
