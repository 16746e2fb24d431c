use Rattle.std.proofs.Common.{◌-◌, List, ℕ, length}
use Rattle.std.specs.declared.option.Option.{Option}
use Rattle.omf_library.proofs.Walking.{ModuleLeft}
use Rattle.omf_librarian.proofs.module.module_end.Given as goal

abbrev pub invariant-loop-frame : goal.invariant-loop-frame
invariant-loop-frame l = record {
  header : Option (List ℕ);
  comment : Option (List ℕ);
  left : ModuleLeft l.bytes 0 l.end header comment;
}

abbrev pub decreases-loop-frame : goal.decreases-loop-frame
decreases-loop-frame l = length l.bytes - l.end
