use Rattle.std.proofs.Common.{◌≡◌, ◌++◌, map, take}
use Rattle.omf_alias.specs.Said.{aliases_said}
use Rattle.omf_library.specs.Said.{all_defaulted}
use Rattle.omf_search.specs.Results.{module_said}
use Rattle.doslink_passes.specs.Aliases.{default_aliases}
use Rattle.doslink_passes.proofs.aliases.push_defaults.Given as goal

abbrev pub invariant-loop-one : goal.invariant-loop-one
invariant-loop-one g l =
    aliases_said l.aliases.items ≡ aliases_said l.initial.aliases.items
    ++ default_aliases l.fn.meanings.names (map module_said l.fn.meanings.says.now)
    (all_defaulted (take l.one-index l.fn.externals))
