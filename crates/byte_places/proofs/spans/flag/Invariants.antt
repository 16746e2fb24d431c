use Rattle.std.proofs.Common.{◌≡◌, ◌||◌, ◌&&◌, ℕ, get_or, leb, ltb, false, min, length}
use Rattle.byte_places.proofs.spans.flag.Given as goal

abbrev pub invariant-loop-place : goal.invariant-loop-place
invariant-loop-place l =
    (k : ℕ) → get_or l.flags k false
    ≡ (get_or l.initial.flags k false
    || (leb (min l.fn.span.start (min l.fn.span.end (length l.fn.flags))) k && ltb k l.place))
