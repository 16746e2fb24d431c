use Rattle.std.proofs.Common.{◌≡◌, ◌||◌, ℕ, get_or, false, drop}
use Rattle.omf_match.specs.Pattern.{is_changed}
use Rattle.omf_match.proofs.marks.marks_of.Given as goal

abbrev pub invariant-loop-fixup : goal.invariant-loop-fixup
invariant-loop-fixup g l =
    (k : ℕ) → (get_or l.marks.items k false || is_changed (drop l.fixup-index l.fn.fixups) k) ≡ is_changed l.fn.fixups k
