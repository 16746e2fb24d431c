use Rattle.std.proofs.Common.{◌≡◌, ◌++◌, drop}
use Rattle.std.specs.List.{flat_map}
use Rattle.mz_text.specs.Program.{relocation_line}
use Rattle.mz_text.proofs.program.push_relocations.Given as goal

abbrev pub invariant-loop-entry : goal.invariant-loop-entry
invariant-loop-entry g l =
    l.lines.items ++ flat_map (relocation_line l.fn.image) (drop l.entry-index l.fn.entries)
    ≡ l.initial.lines.items ++ flat_map (relocation_line l.fn.image) l.fn.entries
