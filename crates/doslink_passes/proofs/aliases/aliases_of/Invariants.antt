use Rattle.std.proofs.Common.{◌≡◌, map, take}
use Rattle.omf_alias.specs.Said.{aliases_said}
use Rattle.doslink_stock.specs.Seen.{handed_held}
use Rattle.doslink_passes.specs.Aliases.{link_aliases}
use Rattle.doslink_passes.proofs.aliases.aliases_of.Given as goal

abbrev pub invariant-loop-each : goal.invariant-loop-each
invariant-loop-each g l =
    aliases_said l.aliases.items
    ≡ link_aliases (map (λ h. (handed_held h).bytes) (take l.each-index l.fn.request.handed.now))
