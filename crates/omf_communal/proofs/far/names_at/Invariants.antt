use Rattle.std.proofs.Common.{◌≡◌, take}
use Rattle.std.specs.List.{filter_map, flat_map}
use Rattle.omf_module.specs.Module.{DataRecord}
use Rattle.omf_communal.specs.Modules.{bytes_of}
use Rattle.omf_communal.specs.inside.Sought.{name_at}
use Rattle.omf_communal.proofs.far.names_at.Given as goal

abbrev pub invariant-loop-index : goal.invariant-loop-index
invariant-loop-index g l =
    bytes_of l.names.items
    ≡ flat_map (λ (d : DataRecord). filter_map (name_at l.sought l.from) d.fixups)
    (take l.index l.from.data_records)
