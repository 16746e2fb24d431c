use Rattle.std.proofs.Common.{◌≡◌, ◌||◌, ◌&&◌, ℕ, get_or, leb, ltb, false}
use Rattle.omf_match.proofs.marks.mark.Given as goal

abbrev pub invariant-loop-place : goal.invariant-loop-place
invariant-loop-place l =
    (k : ℕ) → get_or l.marks k false ≡ (get_or l.initial.marks k false || (leb l.start k && ltb k l.place))
