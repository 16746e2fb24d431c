use Rattle.std.proofs.Common.{◌≡◌, map, take}
use Rattle.doslink_stock.specs.Seen.{handed_held}
use Rattle.doslink_passes.proofs.comdats.given_modules.Given as goal

abbrev pub invariant-loop-index : goal.invariant-loop-index
invariant-loop-index g l =
    map (λ g. g.bytes.now) l.all.items
    ≡ map (λ h. (handed_held h).bytes) (take l.index l.fn.request.handed.now)
