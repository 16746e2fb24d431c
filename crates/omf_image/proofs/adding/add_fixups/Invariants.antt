use Rattle.std.proofs.Common.{◌≡◌, ◌++◌, ℕ, List, take, drop, flat_map, length}
use Rattle.omf_image.specs.declared.patch.Patch.{Patch}
use Rattle.omf_image.specs.Records.{fixup_patches}
use Rattle.omf_image.specs.Faults.{fixups_fault}
use Rattle.omf_image.specs.inside.States.{State, state, IsRoom, Holds}
use Rattle.omf_image.specs.inside.PlacedData.{entry_seen}
use Rattle.omf_image.proofs.adding.add_fixups.Given as goal

abbrev pub invariant-loop-fixup : goal.invariant-loop-fixup
invariant-loop-fixup g l = record {
  room : IsRoom l.placed.start (state l.work);
  sized : length l.work.touched.items ≡ length l.placed.data_record.bytes.now;
  gives : (bytes : List ℕ) (base : State) (earlier : List Patch)
      → Holds l.placed.start bytes base (state l.initial.work) earlier
      → Holds l.placed.start bytes base (state l.work)
      (earlier ++ flat_map (fixup_patches 0 l.placed.layout.now (entry_seen l.placed)) (take l.fixup-index l.fixups))
      × (fixups_fault l.placed.layout.now (entry_seen l.placed)
      (earlier ++ flat_map (fixup_patches 0 l.placed.layout.now (entry_seen l.placed)) (take l.fixup-index l.fixups))
      (drop l.fixup-index l.fixups)
      ≡ fixups_fault l.placed.layout.now (entry_seen l.placed) earlier l.fixups);
}
