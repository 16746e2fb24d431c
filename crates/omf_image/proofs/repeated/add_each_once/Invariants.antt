use Rattle.std.proofs.Common.{◌≡◌, ◌++◌, List, take, drop, flat_map, length}
use Rattle.omf_image.specs.declared.patch.Patch.{Patch}
use Rattle.omf_image.specs.Records.{fixup_patches}
use Rattle.omf_image.specs.Faults.{fixups_fault}
use Rattle.omf_image.specs.inside.States.{state, IsRoom}
use Rattle.omf_image.specs.inside.PlacedData.{entry_seen}
use Rattle.omf_image.specs.inside.Stored.{IsStored}
use Rattle.omf_image.proofs.repeated.add_each_once.Given as goal

abbrev pub invariant-loop-fixup : goal.invariant-loop-fixup
invariant-loop-fixup g l = record {
  room : IsRoom 0 (state l.stored);
  same : length l.stored.touched.items ≡ length l.initial.stored.touched.items;
  gives : (earlier : List Patch)
      → IsStored l.placed.data_record.places.now l.placed.data_record.bytes.now (state l.initial.stored) earlier
      → IsStored l.placed.data_record.places.now l.placed.data_record.bytes.now (state l.stored)
      (earlier ++ flat_map (fixup_patches 0 l.placed.layout.now (entry_seen l.placed)) (take l.fixup-index l.fixups))
      × (fixups_fault l.placed.layout.now (entry_seen l.placed)
      (earlier ++ flat_map (fixup_patches 0 l.placed.layout.now (entry_seen l.placed)) (take l.fixup-index l.fixups))
      (drop l.fixup-index l.fixups)
      ≡ fixups_fault l.placed.layout.now (entry_seen l.placed) earlier l.fixups);
}
