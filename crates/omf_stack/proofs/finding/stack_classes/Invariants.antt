use Rattle.std.proofs.Common.{◌≡◌, ◌&&◌, ℕ, List, map, take}
use Rattle.std.specs.Borrow.{Bor}
use Rattle.std.specs.List.{list_any}
use Rattle.std.specs.Str.{bytes_eq}
use Rattle.indexmap.specs.IndexSet.{contains}
use Rattle.omf_module.specs.Seen.{segment_seen}
use Rattle.omf_stack.specs.Stack.{is_stack}
use Rattle.omf_stack.specs.inside.Classes.{same_name}
use Rattle.omf_stack.proofs.finding.stack_classes.Given as goal

abbrev pub invariant-loop-segment : goal.invariant-loop-segment
invariant-loop-segment g l =
    (q : Bor (List ℕ)) → contains same_name l.classes q ≡
    list_any (λ t. is_stack t && bytes_eq q.now t.class) (map segment_seen (take l.segment-index l.segments))
