use Rattle.std.proofs.Common.{◌≡◌, ◌++◌, ◌%◌, ◌==◌, ◌&&◌, [], codes, drop, if◌then◌else◌, length, nat_lt}
use Rattle.doslink_telling.specs.Warnings.{with_commas}
use Rattle.doslink_telling.proofs.warnings.push_grouped.Given as goal

-- what is left has its first comma in front of it, where digits were appended
abbrev pub invariant-loop-index : goal.invariant-loop-index
invariant-loop-index g l =
    let left = drop l.index l.digits in
    l.lines.items
    ++ (if nat_lt 0 l.index && nat_lt 0 (length left) && length left % 3 == 0 then codes "," else [])
    ++ with_commas left
    ≡ l.initial.lines.items ++ with_commas l.digits
