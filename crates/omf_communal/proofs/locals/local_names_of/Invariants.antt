use Rattle.std.proofs.Common.{◌≡◌, filter, map, take}
use Rattle.omf_module.specs.Module.{PublicSymbol}
use Rattle.omf_communal.specs.Modules.{bytes_of}
use Rattle.omf_communal.proofs.locals.local_names_of.Given as goal

abbrev pub invariant-loop-index : goal.invariant-loop-index
invariant-loop-index g l =
    bytes_of l.names.items
    ≡ map (λ (p : PublicSymbol). p.name) (filter (λ (p : PublicSymbol). p.local) (take l.index l.from.publics))
