use Rattle.std.proofs.Common.{◌≡◌, ◌+◌, ◌-◌, ◌≤◌, drop, length}
use Rattle.std.specs.List.{position_or_len}
use Rattle.doslink_words.specs.Directives.{is_comma_at}
use Rattle.doslink_words.specs.inside.Tokens.{all_placed}
use Rattle.doslink_words.proofs.operands.part_end.Given as goal

abbrev pub invariant-commas : goal.invariant-commas
invariant-commas l = record {
  from : l.fn.start ≤ l.end;
  within : l.end ≤ length l.operands;
  same : l.fn.start + position_or_len is_comma_at (drop l.fn.start (all_placed l.operands))
      ≡ l.end + position_or_len is_comma_at (drop l.end (all_placed l.operands));
}

abbrev pub decreases-commas : goal.decreases-commas
decreases-commas l = length l.operands - l.end
