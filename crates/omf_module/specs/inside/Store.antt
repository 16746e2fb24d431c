-- What the pieces of a store say.
use Rattle.std.specs.Prelude.{◌≡◌, ℕ, ◌+◌, ◌≤◌, List, length, map, take, drop, Option, Some, None}
use Rattle.std.specs.List.{AllByRecursion, zip, range_with_len}
use Rattle.omf_module.specs.declared.pieces.Piece.{Piece}
use Rattle.omf_module.specs.declared.entries.SegmentEntry.{SegmentEntry}
use Rattle.omf_module.specs.declared.entries.GroupEntry.{GroupEntry}
use Rattle.omf_module.specs.declared.entries.ExternalEntry.{ExternalEntry}
use Rattle.omf_module.specs.declared.entries.PublicEntry.{PublicEntry}
use Rattle.omf_module.specs.declared.entries.DataEntry.{DataEntry}
use Rattle.omf_module.specs.Module.{Segment, Group, ExternalSymbol, PublicSymbol, DataRecord}
use Rattle.omf_record.specs.Numbers.{segment_len}
-- the tables of a module
pub use Rattle.omf_module.specs.Kept.{Kept}

-- the piece of a list that begins at `from` and has `len` elements
abbrev pub elements : {X : Type 0} → List X → Piece → List X
elements list piece = take piece.len (drop piece.from list)

abbrev pub segment : (bytes : List ℕ) → SegmentEntry → Segment
segment bytes entry =
    record {
      name = elements bytes entry.name;
      class = elements bytes entry.class;
      length = segment_len entry.length;
      standing = entry.standing;
    }

abbrev pub group : {A : Type 0} (bytes : List ℕ) → GroupEntry A → Group
group bytes entry = record { name = elements bytes entry.name; members = entry.members.items }

abbrev pub external : (bytes : List ℕ) → ExternalEntry → ExternalSymbol
external bytes entry = record { name = elements bytes entry.name; local = entry.local }

abbrev pub public_symbol : (bytes : List ℕ) → PublicEntry → PublicSymbol
public_symbol bytes entry =
    record { name = elements bytes entry.name; base = entry.base; offset = entry.offset; local = entry.local }

-- as many stored places as bytes
abbrev pub places_piece : {A : Type 0} → DataEntry A → Piece
places_piece entry = record { from = entry.places_from; len = entry.bytes.len }

-- those of an entry; none, where there is none
abbrev pub last_piece : {A : Type 0} → Option (DataEntry A) → Piece
last_piece (Some entry) = places_piece entry
last_piece None = record { from = 0; len = 0 }

abbrev pub data_record : {A : Type 0} (bytes places : List ℕ) → DataEntry A → DataRecord
data_record bytes places entry =
    record {
      place = entry.place;
      segment = entry.segment;
      offset = entry.offset;
      pairs = zip (elements places (places_piece entry)) (elements bytes entry.bytes);
      fixups = entry.fixups.items;
    }

abbrev pub IsIn : {X : Type 0} → List X → Piece → Type 0
IsIn list piece = piece.from + piece.len ≤ length list

-- it lies within the list, and has these elements
abbrev pub Holds : {X : Type 0} → List X → Piece → List X → Type 0
Holds list piece held = IsIn list piece × (elements list piece ≡ held)

-- its elements are the numbers from 0 on
abbrev pub Rises : (places : List ℕ) → Piece → Type 0
Rises places piece = Holds places piece (range_with_len 0 piece.len)

abbrev pub SegmentIsIn : (bytes : List ℕ) → SegmentEntry → Type 0
SegmentIsIn bytes entry = IsIn bytes entry.name × IsIn bytes entry.class

abbrev pub GroupIsIn : {A : Type 0} (bytes : List ℕ) → GroupEntry A → Type 0
GroupIsIn bytes entry = IsIn bytes entry.name

abbrev pub ExternalIsIn : (bytes : List ℕ) → ExternalEntry → Type 0
ExternalIsIn bytes entry = IsIn bytes entry.name

abbrev pub PublicIsIn : (bytes : List ℕ) → PublicEntry → Type 0
PublicIsIn bytes entry = IsIn bytes entry.name

abbrev pub DataIsIn : {A : Type 0} (bytes places : List ℕ) → DataEntry A → Type 0
DataIsIn bytes places entry = IsIn bytes entry.bytes × IsIn places (places_piece entry)

-- the entries of a store
pub record Entries (A : Type 0) : Type 0 where
  pub names : List Piece
  pub segments : List SegmentEntry
  pub groups : List (GroupEntry A)
  pub externals : List ExternalEntry
  pub publics : List PublicEntry
  pub data_records : List (DataEntry A)

-- what they say over these bytes and stored places
abbrev pub kept : {A : Type 0} (bytes places : List ℕ) → Entries A → Kept
kept bytes places entries = record {
  names = map (elements bytes) entries.names;
  segments = map (segment bytes) entries.segments;
  groups = map (group bytes) entries.groups;
  externals = map (external bytes) entries.externals;
  publics = map (public_symbol bytes) entries.publics;
  data_records = map (data_record bytes places) entries.data_records;
}

-- each piece lies within them
pub record AreIn {A : Type 0} (bytes places : List ℕ) (entries : Entries A) : Type 0 where
  pub names : AllByRecursion (IsIn bytes) entries.names
  pub segments : AllByRecursion (SegmentIsIn bytes) entries.segments
  pub groups : AllByRecursion (GroupIsIn bytes) entries.groups
  pub externals : AllByRecursion (ExternalIsIn bytes) entries.externals
  pub publics : AllByRecursion (PublicIsIn bytes) entries.publics
  pub data_records : AllByRecursion (DataIsIn bytes places) entries.data_records

-- and one piece of the stored places rises
unfoldable pub IsConsistent : {A : Type 0} (bytes places : List ℕ) (rising : Piece) → Entries A → Type 0
IsConsistent bytes places rising entries = AreIn bytes places entries × Rises places rising
