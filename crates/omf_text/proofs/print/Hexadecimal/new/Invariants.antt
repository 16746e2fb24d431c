use Rattle.std.proofs.Common.{◌≡◌, ◌≤◌, ◌++◌, length, map, take, drop, replicate}
use Rattle.std.specs.Int.Digits.{digits_of}
use Rattle.omf_text.specs.Printing.{digit}
use Rattle.omf_text.proofs.print.Hexadecimal.new.Given as goal

abbrev pub invariant-loop-rest : goal.invariant-loop-rest
invariant-loop-rest l = record {
  all : length l.digits ≡ 16;
  within : l.start ≤ 16;
  room : length (digits_of 16 l.rest) ≤ l.start;
  zeros : take l.start l.digits ≡ replicate l.start 48;
  written : map digit (digits_of 16 l.number) ≡ map digit (digits_of 16 l.rest) ++ drop l.start l.digits;
}

abbrev pub decreases-loop-rest : goal.decreases-loop-rest
decreases-loop-rest l = l.rest
