-- What a module has of 32 bits, as it is given.
use Rattle.std.specs.Prelude.{Bool, true, false, not, ◌&&◌, ◌||◌, nat_lt, is_some, Some}
use Rattle.std.specs.declared.option.Option.{Option}
use Rattle.std.specs.List.{list_any}
use Rattle.omf_comdat.specs.declared.fate.ComdatFate.{ComdatFate}
use Rattle.omf_comdat.specs.declared.fate.ComdatFate.TheVariants.{Opens}
use Rattle.omf_extended.specs.Said.{Extended, Comdat}
use Rattle.omf_extended.specs.declared.comdats.ComdatAllocation.{ComdatAllocation}
use Rattle.omf_extended.specs.declared.comdats.ComdatAllocation.TheVariants.{Code32, Data32}
use Rattle.omf_record.specs.declared.fixups.Location.TheVariants.{LoaderOffset}
use Rattle.omf_record.specs.declared.segments.Alignment.{Alignment}
use Rattle.omf_record.specs.declared.segments.Alignment.TheVariants.{Absolute}
use Rattle.omf_wide.specs.Said.{Said, Fixupp, Modend, Segdef}
use Rattle.omf_wide.specs.declared.fixups.WideLocation.{WideLocation}
use Rattle.omf_wide.specs.declared.fixups.WideLocation.TheVariants.{Of16Bits, Offset32, LoaderOffset32}
use Rattle.omf_wide.specs.declared.fixups.WideSubrecord.{WideSubrecord}
use Rattle.omf_wide.specs.declared.fixups.WideSubrecord.TheVariants.{Fixup}
use Rattle.omf_wide.specs.declared.segments.WideSegment.{WideSegment}
use Rattle.omf_plain.specs.declared.widths.Widths.{Widths}
use Rattle.omf_plain.specs.Comdats.{fate_of}
use Rattle.omf_plain.specs.Given.{Given, Wide, Later}
use Rattle.omf_plain.specs.Plain.{Taking}
use Rattle.omf_plain.specs.Seen.{Seen}
use Rattle.omf_plain.specs.Segments.{is_kept_out}

-- nothing
abbrev pub no_widths : Widths
no_widths = record { fixups = false; start = false; segments = false }

-- what one of two has
abbrev pub either : Widths → Widths → Widths
either a b = record {
  fixups = a.fixups || b.fixups;
  start = a.start || b.start;
  segments = a.segments || b.segments;
}

-- a location of 32 bits, or of a loader-resolved offset (TIS OMF 1.1, "Fixup Record")
abbrev pub is_wide_location : WideLocation → Bool
is_wide_location (Of16Bits LoaderOffset) = true
is_wide_location (Of16Bits location) = false
is_wide_location Offset32 = true
is_wide_location LoaderOffset32 = true

-- a fix-up at one
abbrev pub is_wide_fixup : WideSubrecord → Bool
is_wide_fixup (Fixup f) = is_wide_location f.location
is_wide_fixup _ = false

-- an absolute segment
abbrev pub is_absolute : Alignment → Bool
is_absolute (Absolute frame offset) = true
is_absolute _ = false

-- a segment of 32 bits, by its bit P (TIS OMF 1.1, "Segment Definition Record"), which isn't absolute and has bytes
abbrev pub has_wide_bytes : WideSegment → Bool
has_wide_bytes s = s.use32 && not (is_absolute s.alignment) && (s.big || nat_lt 0 s.length)

-- one that isn't kept out of the program
abbrev pub is_wide_segment : Taking → Seen → WideSegment → Bool
is_wide_segment t seen s = has_wide_bytes s && not (is_kept_out t.keep_debug seen.names s.class)

-- what a record has: a fix-up at such a location; a start in a MODEND of 32 bits; such a segment
abbrev pub said_widths : Taking → Seen → Said → Widths
said_widths t seen (Fixupp wide subrecords) = record no_widths { fixups = list_any is_wide_fixup subrecords }
said_widths t seen (Modend wide main start) = record no_widths { start = wide && is_some start }
said_widths t seen (Segdef wide segment) = record no_widths { segments = is_wide_segment t seen segment }
said_widths t seen _ = no_widths

-- a segment of 32 bits with bytes that a COMDAT opens
abbrev pub opens_wide : Option ComdatFate → ComdatAllocation → Bool
opens_wide (Some (Opens length)) Code32 = nat_lt 0 length
opens_wide (Some (Opens length)) Data32 = nat_lt 0 length
opens_wide _ allocation = false

abbrev pub later_widths : Taking → Seen → Extended → Widths
later_widths t seen (Comdat wide c bytes) = record no_widths { segments = opens_wide (fate_of t seen) c.allocation }
later_widths t seen _ = no_widths

abbrev pub record_widths : Taking → Seen → Given → Widths
record_widths t seen (Wide said) = said_widths t seen said
record_widths t seen (Later said) = later_widths t seen said
record_widths t seen _ = no_widths
