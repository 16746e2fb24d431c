-- The places of a module, as a layout holds them.
use Rattle.omf_place.specs.declared.rows.ModuleRow.{ModuleRow}
use Rattle.omf_place.specs.Layout.{ModulePlaces}

module _ {A : Type 0} where
  -- the places of a module, as values
  abbrev pub row_view : ModuleRow A → ModulePlaces
  row_view row = record { segments = row.segments.items; groups = row.group_frames.items }
