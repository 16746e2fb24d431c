-- Records whose places lie in their modules, and an image of them.
use Rattle.std.specs.Prelude.{◌≡◌, ℕ, ◌+◌, ◌<◌, ◌≤◌, All, List}
use Rattle.std.specs.Prelude.{length, get_or}
use Rattle.omf_record.specs.Expansion.{StandTogether}
use Rattle.omf_record.specs.Numbers.{location_width}
use Rattle.omf_module.specs.declared.ResolvedFixup.{ResolvedFixup}
use Rattle.omf_module.specs.Module.{DataRecord, Module}
use Rattle.omf_place.specs.Layout.{Layout}
use Rattle.omf_image.specs.Records.{bytes_of, entries, entry_start, program_byte, stored_of}

-- The location lies wholly in the data, or wholly in one content of repeated data: from each hit on, its bytes were
-- stored one after the other.
abbrev pub LiesInContent : DataRecord → ResolvedFixup → Type 0
LiesInContent data_record fixup =
    StandTogether fixup.offset (location_width fixup.location) (stored_of data_record)

-- each fix-up of a data record lies so
abbrev pub WellPlaced : DataRecord → Type 0
WellPlaced data_record = All (LiesInContent data_record) data_record.fixups

-- what modules promise of their fix-ups
abbrev pub AllWellPlaced : List Module → Type 0
AllWellPlaced modules = All (λ e. WellPlaced e.item) (entries modules)

-- what the layout promises of the data: each lies inside the program
abbrev pub AllInside : Layout → List Module → Type 0
AllInside layout modules =
    All (λ e. entry_start layout e + length (bytes_of e.item) ≤ layout.size) (entries modules)

-- an image of the program at paragraph 0
pub record IsImage (layout : Layout) (modules : List Module) (image : List ℕ) : Type 0 where
  pub sized : length image ≡ layout.size
  pub bytes : (a : ℕ) → a < layout.size → get_or image a 0 ≡ program_byte 0 layout modules a
