use Rattle.std.proofs.Common.{◌≡◌, Ok, map, take}
use Rattle.doslink_stock.specs.Seen.{handed_held}
use Rattle.doslink_passes.specs.Communals.{declared_by}
use Rattle.doslink_passes.specs.inside.Declaring.{declared_said}
use Rattle.doslink_passes.proofs.communals.declared_of.Given as goal

abbrev pub invariant-loop-each : goal.invariant-loop-each
invariant-loop-each g l =
    map (λ d. Ok (declared_said d)) l.all.items
    ≡ map (λ h. declared_by (handed_held h)) (take l.each-index l.fn.request.handed.now)
