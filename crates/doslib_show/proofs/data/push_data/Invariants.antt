use Rattle.std.proofs.Common.{◌≡◌, ◌+◌, ◌++◌, length}
use Rattle.doslib_show.specs.Data.{data_rows}
use Rattle.doslib_show.proofs.Sixteen.{RowsLeft}
use Rattle.doslib_show.proofs.data.push_data.Given as goal

abbrev pub invariant-loop-rest : goal.invariant-loop-rest
invariant-loop-rest g l = record {
  place : l.next + length l.rest ≡ l.fn.place + length l.fn.bytes;
  left : RowsLeft (l.initial.lines.items ++ data_rows l.fn.place l.fn.bytes) l.lines.items l.next l.rest;
}

abbrev pub decreases-loop-rest : goal.decreases-loop-rest
decreases-loop-rest g l = length l.rest
