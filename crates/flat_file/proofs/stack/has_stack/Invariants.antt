use Rattle.std.proofs.Common.{◌≡◌, find, drop}
use Rattle.omf_image.specs.inside.Starts.{is_stack_segment}
use Rattle.flat_file.proofs.stack.has_stack.Given as goal

abbrev pub invariant-loop-index : goal.invariant-loop-index
invariant-loop-index g l =
    find (is_stack_segment l.modules) (drop l.index l.layout.combined)
    ≡ find (is_stack_segment l.modules) l.layout.combined
