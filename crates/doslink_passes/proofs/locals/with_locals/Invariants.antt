use Rattle.std.proofs.Common.{length, map, take}
use Rattle.doslink_stock.specs.Seen.{handed_held}
use Rattle.doslink_passes.specs.Locals.{EachHasLocals}
use Rattle.doslink_passes.specs.Request.{names_of}
use Rattle.doslink_passes.proofs.locals.with_locals.Given as goal

abbrev pub invariant-loop-module : goal.invariant-loop-module
invariant-loop-module g l =
    EachHasLocals (names_of l.fn.request.job.now.ignore_case) l.fn.modules.items
    (take (length l.yielded) (map (λ h. (handed_held h).bytes) l.fn.request.handed.now)) l.yielded l.all.items
