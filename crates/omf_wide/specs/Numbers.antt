-- The numbers by which locations are written, and their sizes in bytes (TIS OMF 1.1, FIXUPP).
use Rattle.std.specs.Prelude.{ℕ}
use Rattle.omf_record.specs.Numbers as narrow
use Rattle.omf_wide.specs.declared.fixups.WideLocation.{WideLocation}
use Rattle.omf_wide.specs.declared.fixups.WideLocation.TheVariants.{Of16Bits, Offset32, LoaderOffset32}

-- the four bits of a location
abbrev pub location_number : WideLocation → ℕ
location_number (Of16Bits location) = narrow.location_number location
location_number Offset32 = 9
location_number LoaderOffset32 = 13

-- how many bytes a location has
abbrev pub location_width : WideLocation → ℕ
location_width (Of16Bits location) = narrow.location_width location
location_width Offset32 = 4
location_width LoaderOffset32 = 4
