use Rattle.std.proofs.Common.{◌≡◌, ◌++◌, Some, map, take}
use Rattle.doslink_stock.specs.Files.{held}
use Rattle.doslink_stock.specs.Seen.{entry_held}
use Rattle.doslink_stock.proofs.stock.push_entries.Given as goal

abbrev pub invariant-loop-member : goal.invariant-loop-member
invariant-loop-member g l = map entry_held l.entries.items
    ≡ map entry_held l.initial.entries.items
    ++ map (λ m. held l.fn.file (Some m.name.now) m.bytes.now) (take l.member-index l.fn.members)
