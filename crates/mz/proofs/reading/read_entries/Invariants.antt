use Rattle.std.proofs.Common.{◌≡◌, ◌+◌, ◌-◌, ◌*◌, ◌++◌}
use Rattle.mz.specs.Reading.{entries_at}
use Rattle.mz.proofs.reading.read_entries.Given as goal

abbrev pub invariant-loop-index : goal.invariant-loop-index
invariant-loop-index g l =
    l.entries.items
    ++ entries_at (l.fn.header.relocation_count - l.index) (l.fn.header.relocation_table + 4 * l.index) l.bytes
    ≡ entries_at l.fn.header.relocation_count l.fn.header.relocation_table l.bytes
