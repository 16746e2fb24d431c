use Rattle.std.proofs.Common.{◌-◌, ◌≤◌, take}
use Rattle.omf_record.proofs.Repetition.{Copies}
use Rattle.omf_record.proofs.expand.repeat_front.Given as goal

abbrev pub invariant-loop-laid : goal.invariant-loop-laid
invariant-loop-laid g l = record {
  least : l.once ≤ l.laid;
  most : l.laid ≤ l.len;
  laid : Copies (take l.once l.fn.items) l.once l.laid (take l.laid l.items);
}

abbrev pub decreases-loop-laid : goal.decreases-loop-laid
decreases-loop-laid g l = l.len - l.laid
