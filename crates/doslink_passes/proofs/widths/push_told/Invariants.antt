use Rattle.std.proofs.Common.{◌≡◌, ◌++◌, drop}
use Rattle.std.specs.List.{flat_map}
use Rattle.doslink_telling.specs.Lines.{wide_line}
use Rattle.doslink_passes.proofs.widths.push_told.Given as goal

abbrev pub invariant-loop-word : goal.invariant-loop-word
invariant-loop-word g l =
    l.lines.items ++ flat_map (λ w. wide_line w.now) (drop l.word-index l.fn.told)
    ≡ l.initial.lines.items ++ flat_map (λ w. wide_line w.now) l.fn.told
