use Rattle.std.proofs.Common.{All, map, take}
use Rattle.omf_alias.specs.Said.{aliases_said}
use Rattle.omf_search.specs.Results.{module_said}
use Rattle.doslink_stock.specs.Seen.{handed_held}
use Rattle.doslink_passes.specs.Aliases.{EndsIn}
use Rattle.doslink_passes.proofs.aliases.check_aliases.Given as goal

abbrev pub invariant-loop-index : goal.invariant-loop-index
invariant-loop-index g l =
    All (EndsIn l.fn.meanings.names (map module_said l.fn.meanings.says.now)
    (aliases_said l.fn.meanings.aliases.aliases.items))
    (map (λ h. (handed_held h).bytes) (take l.index l.fn.request.handed.now))
