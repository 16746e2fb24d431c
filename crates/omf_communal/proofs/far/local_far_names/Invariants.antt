use Rattle.std.proofs.Common.{◌≡◌, filter, map, take}
use Rattle.omf_module.specs.Module.{PublicSymbol}
use Rattle.omf_communal.specs.Far.{is_far_local}
use Rattle.omf_communal.specs.Modules.{bytes_of}
use Rattle.omf_communal.proofs.far.local_far_names.Given as goal

abbrev pub invariant-loop-index : goal.invariant-loop-index
invariant-loop-index g l =
    bytes_of l.names.items
    ≡ map (λ (p : PublicSymbol). p.name) (filter (is_far_local l.from) (take l.index l.from.publics))
