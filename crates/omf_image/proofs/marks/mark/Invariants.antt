use Rattle.std.proofs.Common.{◌≡◌, ◌||◌, ◌&&◌, ℕ, get_or, leb, ltb, false}
use Rattle.omf_image.proofs.marks.mark.Given as goal

abbrev pub invariant-loop-k : goal.invariant-loop-k
invariant-loop-k l = (j : ℕ) → get_or l.marks j false ≡ (get_or l.initial.marks j false || (leb l.start j && ltb j l.k))
