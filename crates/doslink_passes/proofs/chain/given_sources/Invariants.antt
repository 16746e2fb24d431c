use Rattle.std.proofs.Common.{◌≡◌, map, take}
use Rattle.doslink_stock.specs.Seen.{handed_held}
use Rattle.doslink_passes.specs.Sources.{source_bytes}
use Rattle.doslink_passes.proofs.chain.given_sources.Given as goal

abbrev pub invariant-loop-each : goal.invariant-loop-each
invariant-loop-each g l =
    map source_bytes l.sources.items ≡ map (λ h. (handed_held h).bytes) (take l.each-index l.fn.request.handed.now)
