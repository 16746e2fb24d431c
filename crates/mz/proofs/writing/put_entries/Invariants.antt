use Rattle.std.proofs.Common.{◌≡◌, ◌*◌, take}
use Rattle.mz.specs.File.{table_bytes}
use Rattle.mz.proofs.writing.put_entries.Given as goal

abbrev pub invariant-loop-index : goal.invariant-loop-index
invariant-loop-index l = take (4 * l.index) l.bytes ≡ table_bytes (take l.index l.addresses)
