use Rattle.std.proofs.Common.{◌≡◌, ◌+◌, List, take, flat_map, true}
use Rattle.omf_image.specs.declared.patch.Patch.{Patch}
use Rattle.omf_image.specs.inside.Patches.{all_clear}
use Rattle.omf_image.specs.inside.Marks.{IsMarked}
use Rattle.omf_image.specs.Value.{patches_at}
use Rattle.omf_image.proofs.work.Work.are_clear.Given as goal

abbrev pub invariant-loop-at : goal.invariant-loop-at
invariant-loop-at g l =
    (earlier : List Patch) → IsMarked l.self.touched.items l.self.relocated.items earlier
    → all_clear earlier
    (flat_map (λ i. patches_at 0 l.resolved l.self_relative l.location i (l.start + i)) (take l.at-index l.hits)) ≡ true
