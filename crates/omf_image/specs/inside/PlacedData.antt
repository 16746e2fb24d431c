-- A data record as the code sees it, and what adding one of its fix-ups answers.
use Rattle.std.specs.Prelude.{◌≡◌, ◌<◌, true, false, List, length, Some, None}
use Rattle.std.specs.Prelude.{Result, Ok, Err}
use Rattle.omf_module.specs.declared.ResolvedFixup.{ResolvedFixup}
use Rattle.omf_module.specs.Seen.{data_seen}
use Rattle.omf_place.specs.Layout.{Layout, places_of}
use Rattle.omf_image.specs.declared.faults.Stop.{Stop}
use Rattle.omf_image.specs.declared.faults.Stop.TheVariants.{Kind, Memory}
use Rattle.omf_image.specs.declared.patch.Patch.{Patch}
use Rattle.omf_image.specs.declared.placed_data.PlacedData.{PlacedData}
use Rattle.omf_image.specs.Records.{entry_start}
use Rattle.omf_image.specs.inside.Entries.{DataEntry}
use Rattle.omf_image.specs.Faults.{fixup_fault}
use Rattle.omf_image.specs.inside.Marks.{IsPlain}
use Rattle.omf_image.specs.inside.Index.{IsIndex}

-- the data record with its module, as the definitions have them
abbrev pub entry_seen : {A : Type 0} → PlacedData A → DataEntry
entry_seen placed =
    record { input = placed.input; module' = placed.module.now; item = data_seen placed.data_record }

-- what is told of the data record holds
pub record IsPlacedData {A : Type 0} (placed : PlacedData A) : Type 0 where
  pub input : placed.input < length placed.layout.now.modules
  pub segment : placed.data_record.segment < length (places_of placed.layout.now placed.input).segments
  pub start : placed.start ≡ entry_start placed.layout.now (entry_seen placed)
  pub lengths : length placed.data_record.bytes.now ≡ length placed.data_record.places.now
  pub plain : placed.plain ≡ true → IsPlain placed.data_record.places.now
  pub index : placed.plain ≡ false → IsIndex placed.data_record.places.now placed.index.now

-- a fix-up's fault, or none and what then holds
abbrev pub FixupGives : Layout → DataEntry → (earlier : List Patch) → ResolvedFixup → Result (Unit {0}) Stop
    → (holds : Type 0)
    → Type 0
FixupGives layout entry earlier fixup (Ok u) holds = (fixup_fault layout entry earlier fixup ≡ None) × holds
FixupGives layout entry earlier fixup (Err (Kind kind)) holds = fixup_fault layout entry earlier fixup ≡ Some kind
FixupGives layout entry earlier fixup (Err Memory) holds = Unit {0}
