-- What holds of sound modules and their layout: what fix-ups and starts name is there, and data lies inside the
-- program.
use Rattle.std.specs.Prelude.{ℕ, ◌+◌, ◌<◌, ◌≤◌, All, List, length}
use Rattle.omf_record.specs.declared.fixups.FrameMethod.{FrameMethod}
use Rattle.omf_record.specs.declared.fixups.FrameMethod.TheVariants as by
use Rattle.omf_record.specs.declared.fixups.TargetMethod.{TargetMethod}
use Rattle.omf_record.specs.declared.fixups.TargetMethod.TheVariants as to
use Rattle.omf_module.specs.declared.ResolvedFixup.{ResolvedFixup}
use Rattle.omf_module.specs.Module.{Module}
use Rattle.omf_module.specs.Sound.{IsIndexOf}
use Rattle.omf_place.specs.Layout.{Layout, places_of}
use Rattle.omf_record.specs.Numbers.{location_width}
use Rattle.omf_image.specs.Records.{entries, entry_start, bytes_of, stored_of}
use Rattle.omf_image.specs.inside.Entries.{StartEntry, DataEntry}
use Rattle.omf_image.specs.inside.WellPlaced.{LiesInContent}
use Rattle.omf_record.specs.Expansion.{StandWhole, AreCopies}
use Rattle.omf_image.specs.Registers.{starts}

-- segments, groups and externals that a reference names are there
abbrev pub IsTargetThere : Layout → (input : ℕ) → Module → TargetMethod → Type 0
IsTargetThere layout input module' (to.Segment index) = IsIndexOf (places_of layout input).segments index
IsTargetThere layout input module' (to.Group index) = IsIndexOf (places_of layout input).groups index
IsTargetThere layout input module' (to.External index) = IsIndexOf module'.externals index

-- and so are those that its frame names
abbrev pub IsFrameThere : Layout → (input : ℕ) → Module → (here : ℕ) → FrameMethod → Type 0
IsFrameThere layout input module' here (by.By method) = IsTargetThere layout input module' method
IsFrameThere layout input module' here by.Location = here < length (places_of layout input).segments
IsFrameThere layout input module' here by.Target = Unit {0}

-- what a fix-up names is there, and its location lies in the contents of its data
pub record IsFixupReady (layout : Layout) (entry : DataEntry) (fixup : ResolvedFixup) : Type 0 where
  pub target : IsTargetThere layout entry.input entry.module' fixup.target
  pub frame : IsFrameThere layout entry.input entry.module' entry.item.segment fixup.frame
  pub lies : LiesInContent entry.item fixup
  pub whole : StandWhole fixup.offset (location_width fixup.location) (stored_of entry.item)

-- a data record has a part, lies inside the program, its fix-ups lie in its contents, and its bytes of one stored place
-- are one byte
pub record IsEntryReady (layout : Layout) (entry : DataEntry) : Type 0 where
  pub input : entry.input < length layout.modules
  pub segment : entry.item.segment < length (places_of layout entry.input).segments
  pub inside : entry_start layout entry + length (bytes_of entry.item) ≤ layout.size
  pub fixups : All (IsFixupReady layout entry) entry.item.fixups
  pub copies : AreCopies entry.item.pairs

-- a start's frame is never that of a location
pub record IsStartReady (layout : Layout) (entry : StartEntry) : Type 0 where
  pub input : entry.input < length layout.modules
  pub target : IsTargetThere layout entry.input entry.module' entry.item.target
  pub frame : IsFrameThere layout entry.input entry.module' 0 entry.item.frame

-- all of them, and the program fits the format
pub record IsReady (layout : Layout) (modules : List Module) : Type 0 where
  pub small : layout.size ≤ 1048560
  pub records : All (IsEntryReady layout) (entries modules)
  pub starts : All (IsStartReady layout) (starts modules)
