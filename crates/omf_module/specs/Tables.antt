-- What the records of a module define, and what the module says (TIS OMF 1.1, the section of each record).
use Rattle.std.specs.Prelude.{ℕ, ◌-◌, ◌==◌, List, [], ◌∷◌, ◌++◌, length, map, Option}
use Rattle.std.specs.Prelude.{None, Some, unwrap_or}
use Rattle.std.specs.Bool.{then_some}
use Rattle.std.specs.Option.{option_map, option_to_list, option_zip}
use Rattle.std.specs.List.{flat_map, filter_map, enumerate_from}
use Rattle.omf_record.specs.Record.{Record, Modend, Extdef, Pubdef, Lnames, Segdef}
use Rattle.omf_record.specs.Record.{Grpdef, Fixupp, Ledata, Lidata}
use Rattle.omf_record.specs.Expansion.{expansion, contents}
use Rattle.std.specs.Prelude.{slice_index}
use Rattle.omf_record.specs.Numbers.{alignment_number, thread_number, segment_len}
use Rattle.omf_record.specs.Records.{Placed}
use Rattle.omf_record.specs.declared.segments.Alignment.{Alignment}
use Rattle.omf_record.specs.declared.segments.Alignment.TheVariants as align
use Rattle.omf_record.specs.declared.segments.Combination.{Combination}
use Rattle.omf_record.specs.declared.segments.Combination.TheVariants as combine
use Rattle.omf_record.specs.declared.fixups.FrameMethod.{FrameMethod}
use Rattle.omf_record.specs.declared.fixups.TargetMethod.{TargetMethod}
use Rattle.omf_record.specs.declared.fixups.Datum.{Datum}
use Rattle.omf_record.specs.declared.fixups.Datum.TheVariants as datum
use Rattle.omf_record.specs.declared.fixups.Reference.{Reference}
use Rattle.omf_record.specs.declared.fixups.Subrecord.{Subrecord}
use Rattle.omf_record.specs.declared.fixups.Subrecord.TheVariants as sub
use Rattle.omf_module.specs.declared.Kind.{Kind}
use Rattle.omf_module.specs.declared.Kind.TheVariants as kinds
use Rattle.omf_module.specs.declared.Standing.{Standing}
use Rattle.omf_module.specs.declared.Standing.TheVariants.{Absolute, Relocatable}
use Rattle.omf_module.specs.declared.ResolvedFixup.{ResolvedFixup}
use Rattle.omf_module.specs.declared.Start.{Start}
use Rattle.omf_module.specs.Module.{Segment, Group, ExternalSymbol, PublicSymbol, DataRecord, Module}
use Rattle.omf_module.specs.Before.{along, last, entry}

-- ---- 96H LNAMES: List of Names Record

-- the names that these records list
abbrev pub names : List Placed → List (List ℕ)
names records = flat_map (λ (placed : Placed). elim placed.says [ Lnames listed ↦ listed | _ ↦ [] ]) records

-- the name that an index means; 0 means the empty one
abbrev pub name_at : List (List ℕ) → ℕ → List ℕ
name_at names index = unwrap_or (entry names index) []

-- ---- 98H SEGDEF: Segment Definition Record

-- how the parts of a segment combine
abbrev pub segment_kind : Combination → Kind
segment_kind combine.Private = kinds.Private
segment_kind combine.Stack = kinds.Stack
segment_kind combine.Common = kinds.Common
segment_kind _ = kinds.Public

-- where a segment stands: an absolute one, and by the field A at a byte, a word, a paragraph, a page, a double word
abbrev pub standing_of : Alignment → Combination → Standing
standing_of (align.Absolute frame offset) combination = Absolute frame offset
standing_of alignment combination =
    Relocatable (slice_index (0 ∷ 1 ∷ 2 ∷ 16 ∷ 256 ∷ 4 ∷ []) (alignment_number alignment)) (segment_kind combination)

-- the segment that a record defines, with the names before it
abbrev pub segments_in : List (List ℕ) → Record → List Segment
segments_in names (Segdef definition) =
    record {
      name = name_at names definition.name;
      class = name_at names definition.class;
      length = segment_len definition.length;
      standing = standing_of definition.alignment definition.combination;
    } ∷ []
segments_in names _ = []

-- ---- 9AH GRPDEF: Group Definition Record

-- the part of a group that a record defines, with the names before it; its members count from 0
abbrev pub groups_in : List (List ℕ) → Record → List Group
groups_in names (Grpdef name components) =
    record { name = name_at names name; members = map (λ index. index - 1) components } ∷ []
groups_in names _ = []

-- ---- 8CH EXTDEF and B4H LEXTDEF: (Local) External Names Definition Record; 90H PUBDEF and B6H LPUBDEF: (Local) Public
-- Names Definition Record

-- the externals that a record lists
abbrev pub externals_in : Record → List ExternalSymbol
externals_in (Extdef local listed) = map (λ external. record { name = external.name; local = local }) listed
externals_in _ = []

-- the public symbols that a record defines
abbrev pub publics_in : Record → List PublicSymbol
publics_in (Pubdef local base listed) =
    map (λ p. record { name = p.name; base = base; offset = p.offset; local = local }) listed
publics_in _ = []

-- ---- A0H LEDATA: Logical Enumerated Data Record; A2H LIDATA: Logical Iterated Data Record

-- the data record that a record at this place gives, as yet with no fix-ups; segments count from 0
abbrev pub data_in : ℕ → Record → List DataRecord
data_in place (Ledata segment offset bytes) =
    record { place = place; segment = segment - 1; offset = offset; pairs = enumerate_from 0 bytes; fixups = [] } ∷ []
data_in place (Lidata segment offset blocks) =
    record { place = place; segment = segment - 1; offset = offset; pairs = expansion blocks; fixups = [] } ∷ []
data_in place _ = []

-- the contents that a record stores, each with its first stored place and its length; the bytes of LEDATA are one
abbrev pub contents_in : Record → Option (List (ℕ × ℕ))
contents_in (Ledata segment offset bytes) = Some ((0, length bytes) ∷ [])
contents_in (Lidata segment offset blocks) = Some (contents blocks)
contents_in _ = None

-- the data records of these records, as yet with no fix-ups
abbrev pub data_of : List Placed → List DataRecord
data_of records = flat_map (λ (placed : Placed). data_in placed.place placed.says) records

-- ---- 9CH FIXUPP: Fixup Record, its thread subrecords

-- all subrecords of all FIXUPP records
abbrev pub subrecords : List Placed → List Subrecord
subrecords records = flat_map (λ (placed : Placed). elim placed.says [ Fixupp listed ↦ listed | _ ↦ [] ]) records

-- the frame thread in force after these subrecords: what the last one that sets the thread of this number sets it to
abbrev pub frame_thread : List Subrecord → ℕ → Option FrameMethod
frame_thread before number =
    last (filter_map (elim [ sub.SetFrame n method ↦ then_some (thread_number n == number) method | _ ↦ None ]) before)

-- the same of targets
abbrev pub target_thread : List Subrecord → ℕ → Option TargetMethod
target_thread before number =
    last (filter_map (elim [ sub.SetTarget n method ↦ then_some (thread_number n == number) method | _ ↦ None ]) before)

-- the method that a fix-up or start uses
abbrev pub used : {M : Type 0} → (ℕ → Option M) → Datum M → Option M
used threads (datum.Thread thread) = threads (thread_number thread)
used threads (datum.By method) = Some method

-- ---- 9CH FIXUPP: Fixup Record, its fix-up subrecords; 8AH MODEND: Module End Record

-- the methods of frame and target that a reference uses behind these subrecords; none where a thread isn't set
abbrev pub methods : List Subrecord → Reference → Option (FrameMethod × TargetMethod)
methods before r = option_zip (used (frame_thread before) r.frame) (used (target_thread before) r.target)

-- the fix-up of a subrecord, with the subrecords before it
abbrev pub fixup_in : ℕ → List Subrecord → Subrecord → Option ResolvedFixup
fixup_in place before (sub.Fixup fixup) = option_map (λ (m : FrameMethod × TargetMethod). record {
  place = place;
  self_relative = fixup.self_relative;
  location = fixup.location;
  offset = fixup.offset;
  frame = m.0;
  target = m.1;
  displacement = unwrap_or fixup.reference.displacement 0;
}) (methods before fixup.reference)
fixup_in place before _ = None

-- the fix-ups of a record, with the subrecords before it
abbrev pub fixups_in : List Subrecord → Placed → List ResolvedFixup
fixups_in before placed =
    along [] (λ earlier subrecord. option_to_list (fixup_in placed.place (before ++ earlier) subrecord))
    (subrecords (placed ∷ []))

-- all fix-ups, each with how many data records stand before it: the last of these is the one that it is on
abbrev pub fixups : List Placed → List (ℕ × ResolvedFixup)
fixups records =
    along [] (λ before placed. map (λ x. (length (data_of before), x)) (fixups_in (subrecords before) placed)) records

-- a data record, by its number, with the fix-ups on it
abbrev pub data_record : List (ℕ × ResolvedFixup) → ℕ × DataRecord → DataRecord
data_record fixups numbered =
    record numbered.1 { fixups = filter_map (λ (x : ℕ × ResolvedFixup). then_some (x.0 == numbered.0) x.1) fixups }

-- the start of a MODEND record, with the subrecords before it
abbrev pub start_in : List Subrecord → ℕ → Record → Option Start
start_in before place (Modend main (Some r)) = option_map (λ (m : FrameMethod × TargetMethod).
    record { place = place; frame = m.0; target = m.1; displacement = unwrap_or r.displacement 0 }) (methods before r)
start_in before place _ = None

-- what these records say as a module: segments and groups each with the names before it, and the last start
abbrev pub module_of : List Placed → Module
module_of records = record {
  segments = along [] (λ before (placed : Placed). segments_in (names before) placed.says) records;
  groups = along [] (λ before (placed : Placed). groups_in (names before) placed.says) records;
  externals = flat_map (λ (placed : Placed). externals_in placed.says) records;
  publics = flat_map (λ (placed : Placed). publics_in placed.says) records;
  data_records = map (data_record (fixups records)) (enumerate_from 1 (data_of records));
  start = last (along [] (λ before (p : Placed). option_to_list (start_in (subrecords before) p.place p.says)) records);
}
