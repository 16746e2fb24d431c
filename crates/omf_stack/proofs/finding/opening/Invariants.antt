use Rattle.std.proofs.Common.{◌≡◌, ◌&&◌, ℕ, Bool, None, List, map, not, take}
use Rattle.std.specs.Borrow.{Bor}
use Rattle.std.specs.Prelude.{find}
use Rattle.indexmap.specs.IndexSet.{contains}
use Rattle.omf_module.specs.Faults.{is_absolute}
use Rattle.omf_module.specs.Module.{Segment}
use Rattle.omf_module.specs.Seen.{segment_seen}
use Rattle.omf_stack.specs.inside.Classes.{same_name}
use Rattle.omf_stack.proofs.finding.opening.Given as goal

abbrev pub invariant-loop-segment : goal.invariant-loop-segment
invariant-loop-segment g l = (has : List ℕ → Bool) →
    ((q : Bor (List ℕ)) → contains same_name l.fn.classes q ≡ has q.now) →
    find (λ (s : Segment). not (is_absolute s.standing) && has s.class)
    (map segment_seen (take l.segment-index l.segments)) ≡ None
