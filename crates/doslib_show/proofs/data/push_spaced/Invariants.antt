use Rattle.std.proofs.Common.{◌≡◌, ◌++◌, drop}
use Rattle.std.specs.List.{flat_map}
use Rattle.doslib_show.specs.Data.{spaced}
use Rattle.doslib_show.proofs.data.push_spaced.Given as goal

abbrev pub invariant-loop-byte : goal.invariant-loop-byte
invariant-loop-byte g l =
    l.lines.items ++ flat_map spaced (drop l.byte-index l.bytes) ≡ l.initial.lines.items ++ flat_map spaced l.bytes
