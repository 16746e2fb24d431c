use Rattle.std.proofs.Common.{◌≡◌, ◌||◌, ◌<◌, ℕ, get_or, false, drop, length}
use Rattle.std.specs.List.{list_any}
use Rattle.byte_places.specs.Gaps.{is_in}
use Rattle.byte_places.proofs.spans.flags_of.Given as goal

abbrev pub invariant-loop-span : goal.invariant-loop-span
invariant-loop-span g l = record {
  len : length l.flags.items ≡ l.fn.len;
  flagged : (k : ℕ) → k < l.fn.len
      → (get_or l.flags.items k false || list_any (is_in k) (drop l.span-index l.fn.spans))
      ≡ list_any (is_in k) l.fn.spans;
}
