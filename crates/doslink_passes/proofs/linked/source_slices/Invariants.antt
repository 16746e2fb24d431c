use Rattle.std.proofs.Common.{◌≡◌, map, take}
use Rattle.doslink_link.specs.Linking.{bytes_of}
use Rattle.doslink_passes.specs.Sources.{source_bytes}
use Rattle.doslink_passes.proofs.linked.source_slices.Given as goal

abbrev pub invariant-loop-one : goal.invariant-loop-one
invariant-loop-one g l = bytes_of l.slices.items ≡ map source_bytes (take l.one-index l.fn.sources)
