use Rattle.std.proofs.Common.{◌≡◌, take}
use Rattle.omf_names.specs.Views.{aliases_said}
use Rattle.doslink_words.specs.Said.{aliases_of}
use Rattle.doslink_passes.proofs.names.all_aliases.Given as goal

abbrev pub invariant-loop-alias : goal.invariant-loop-alias
invariant-loop-alias g l = aliases_said l.all.items ≡ aliases_of (take l.alias-index l.fn.aliases)
