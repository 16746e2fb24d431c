use Rattle.std.proofs.Common.{map, take}
use Rattle.doslink_stock.specs.Seen.{handed_held}
use Rattle.doslink_passes.specs.Plain.{AreTaken}
use Rattle.doslink_passes.specs.inside.Plains.{fates_in, made_in, takes_in}
use Rattle.doslink_passes.proofs.plain.all_taken.Given as goal

abbrev pub invariant-loop-index : goal.invariant-loop-index
invariant-loop-index g l =
    AreTaken (takes_in l.fn.request.job.now.keep_debug l.fn.all) (made_in l.fn.all)
    (map (λ h. (handed_held h).bytes) (take l.index l.fn.request.handed.now)) (take l.index (fates_in l.fn.all))
    l.modules.items l.widths.items
