use Rattle.std.proofs.Common.{◌≡◌, ◌++◌, take}
use Rattle.std.specs.List.{filter_map}
use Rattle.omf_communal.specs.Modules.{bytes_of}
use Rattle.omf_communal.specs.inside.Sought.{name_at}
use Rattle.omf_communal.proofs.far.push_names.Given as goal

abbrev pub invariant-loop-fixup : goal.invariant-loop-fixup
invariant-loop-fixup g l =
    bytes_of l.names.items ≡ bytes_of l.initial.names.items
    ++ filter_map (name_at l.fn.sought l.fn.from) (take l.fixup-index l.fixups)
