use Rattle.std.proofs.Common.{◌≡◌, ◌+◌, ◌++◌, ℕ, List, take, flat_map, length}
use Rattle.omf_image.specs.declared.patch.Patch.{Patch}
use Rattle.omf_image.specs.Value.{patches_at}
use Rattle.omf_image.specs.inside.States.{State, state, IsRoom, Holds}
use Rattle.omf_image.proofs.work.Work.add_hits.Given as goal

abbrev pub invariant-loop-at : goal.invariant-loop-at
invariant-loop-at g l = record {
  room : IsRoom l.start (state l.self);
  same : length l.self.touched.items ≡ length l.initial.self.touched.items;
  holds : (bytes : List ℕ) (base : State) (ps : List Patch) → Holds l.start bytes base (state l.initial.self) ps
      → Holds l.start bytes base (state l.self)
      (ps ++ flat_map (λ i. patches_at 0 l.resolved l.self_relative l.location i (l.start + i))
      (take l.at-index l.hits));
}
