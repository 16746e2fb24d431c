-- What the checks of a module refuse, by what the records before a record say.
use Rattle.std.specs.Prelude.{ℕ, ◌+◌, ◌==◌, Bool, true, false, not, ◌||◌, ◌&&◌, nat_le, nat_lt, List, []}
use Rattle.std.specs.Prelude.{◌∷◌, ◌++◌, length, map, Option, None, Some, option_map}
use Rattle.std.specs.Bool.{then_some}
use Rattle.std.specs.Option.{option_and_then, option_or, option_to_list}
use Rattle.std.specs.Prelude.{is_none}
use Rattle.std.specs.List.{filter_map, list_any}
use Rattle.omf_record.specs.Record.{Record, Theadr, Modend, Pubdef, Segdef, Grpdef}
use Rattle.omf_record.specs.Record.{Fixupp, Ledata, Lidata}
use Rattle.omf_record.specs.Expansion.{expansion}
use Rattle.omf_record.specs.Numbers.{location_width}
use Rattle.omf_record.specs.Records.{Placed}
use Rattle.omf_record.specs.declared.fixups.FrameMethod.{FrameMethod}
use Rattle.omf_record.specs.declared.fixups.FrameMethod.TheVariants as by
use Rattle.omf_record.specs.declared.fixups.TargetMethod.{TargetMethod}
use Rattle.omf_record.specs.declared.fixups.TargetMethod.TheVariants as to
use Rattle.omf_record.specs.declared.externals.PublicBase.{PublicBase}
use Rattle.omf_record.specs.declared.externals.PublicBase.TheVariants.{AtFrame, InSegment}
use Rattle.omf_record.specs.declared.fixups.Location.{Location}
use Rattle.omf_record.specs.declared.fixups.Location.TheVariants.{Base, Pointer}
use Rattle.omf_record.specs.declared.fixups.Fixup.{Fixup}
use Rattle.omf_record.specs.declared.fixups.Subrecord.{Subrecord}
use Rattle.omf_record.specs.declared.fixups.Subrecord.TheVariants as sub
use Rattle.omf_module.specs.declared.fault.CheckFault.{CheckFault}
use Rattle.omf_module.specs.declared.fault.CheckFault.TheVariants.{NotHeader, NameIndex, SegmentIndex, GroupIndex}
use Rattle.omf_module.specs.declared.fault.CheckFault.TheVariants.{ExternalIndex, ThreadNotSet, FixupBeforeData}
use Rattle.omf_module.specs.declared.fault.CheckFault.TheVariants.{FixupPlace, DataOutside, DataInAbsolute}
use Rattle.omf_module.specs.declared.fault.CheckFault.TheVariants.{SelfRelativeBase, FrameOfLocation, GroupOfAbsolute}
use Rattle.omf_module.specs.declared.Standing.{Standing}
use Rattle.omf_module.specs.declared.Standing.TheVariants.{Absolute, Relocatable}
use Rattle.omf_module.specs.Module.{Segment, Module}
use Rattle.omf_module.specs.Before.{along, first, last, entry}
use Rattle.omf_module.specs.Tables.{names, contents_in, subrecords, frame_thread, target_thread}
use Rattle.omf_module.specs.Tables.{used, module_of}

-- an index that may be 0 is refused where it is beyond the end of the list
abbrev pub is_beyond : {A : Type 0} → List A → ℕ → Bool
is_beyond list index = nat_lt (length list) index

-- an index that must mean something is refused where it is 0, too
abbrev pub misses : {A : Type 0} → List A → ℕ → Bool
misses list index = index == 0 || is_beyond list index

-- a segment at a frame that its definition names
abbrev pub is_absolute : Standing → Bool
is_absolute (Absolute frame offset) = true
is_absolute (Relocatable alignment kind) = false

-- a component of a group
abbrev pub component_fault : Option Segment → Option CheckFault
component_fault None = Some SegmentIndex
component_fault (Some segment) = then_some (is_absolute segment.standing) GroupOfAbsolute

-- so many bytes from an offset on in a segment
abbrev pub data_fault : Option Segment → (offset length : ℕ) → Option CheckFault
data_fault None offset length = Some SegmentIndex
data_fault (Some segment) offset length =
    option_or (then_some (nat_lt segment.length (offset + length)) DataOutside)
    (then_some (is_absolute segment.standing) DataInAbsolute)

-- the group may be 0; the segment isn't, since the frame word stands in its place
abbrev pub public_fault : Module → PublicBase → Option CheckFault
public_fault said (AtFrame group frame) = then_some (is_beyond said.groups group) GroupIndex
public_fault said (InSegment group segment) =
    option_or (then_some (misses said.segments segment) SegmentIndex)
    (then_some (is_beyond said.groups group) GroupIndex)

-- the faults of a frame and a target in use, in the order of their numbers; where one is absent, its thread isn't set
abbrev pub reference_faults : Module → Option FrameMethod → Option TargetMethod → List (Option CheckFault)
reference_faults said frame target =
    let by_target : Option TargetMethod = option_and_then (elim [ by.By method ↦ Some method | _ ↦ None ]) frame in
    let all : List TargetMethod = option_to_list by_target ++ option_to_list target in
    then_some (list_any (elim [ to.Segment index ↦ misses said.segments index | _ ↦ false ]) all) SegmentIndex
    ∷ then_some (list_any (elim [ to.Group index ↦ misses said.groups index | _ ↦ false ]) all) GroupIndex
    ∷ then_some (list_any (elim [ to.External index ↦ misses said.externals index | _ ↦ false ]) all) ExternalIndex
    ∷ then_some (is_none frame || is_none target) ThreadNotSet ∷ []

-- a base can't be relative to itself
abbrev pub holds_base : Location → Bool
holds_base Base = true
holds_base Pointer = true
holds_base _ = false

-- the location against the contents of the last data record before it: it lies wholly in one of them
abbrev pub place_fault : Option (List (ℕ × ℕ)) → Fixup → Option CheckFault
place_fault None fixup = Some FixupBeforeData
place_fault (Some contents) fixup =
    let end = fixup.offset + location_width fixup.location in
    then_some (not (list_any (λ c. nat_le c.0 fixup.offset && nat_le end (c.0 + c.1)) contents)) FixupPlace

-- ---- the items of a record, in order, each with the smallest fault that stands there: the name and each component of
-- GRPDEF, each subrecord of FIXUPP, and any other record as a whole

-- a subrecord, with those before it in all FIXUPP records: only a fix-up can be at fault; a base
-- isn't relative to itself
abbrev pub subrecord_item : Module → Option (List (ℕ × ℕ)) → List Subrecord → Subrecord → Option CheckFault
subrecord_item said contents before (sub.Fixup fixup) =
    first (reference_faults said (used (frame_thread before) fixup.reference.frame)
    (used (target_thread before) fixup.reference.target) ++ place_fault contents fixup
    ∷ then_some (fixup.self_relative && holds_base fixup.location) SelfRelativeBase ∷ [])
subrecord_item said contents before _ = None

-- the items of a record after these: a segment's name and class may be 0, a group's name and each component is an item;
-- a start has no location
abbrev pub items : List Placed → Record → List (Option CheckFault)
items before (Segdef definition) =
    then_some (is_beyond (names before) definition.name || is_beyond (names before) definition.class) NameIndex ∷ []
items before (Grpdef name components) =
    then_some (misses (names before) name) NameIndex
    ∷ map (λ index. component_fault (entry (module_of before).segments index)) components
items before (Pubdef local base listed) = public_fault (module_of before) base ∷ []
items before (Ledata segment offset bytes) =
    data_fault (entry (module_of before).segments segment) offset (length bytes) ∷ []
items before (Lidata segment offset blocks) =
    data_fault (entry (module_of before).segments segment) offset (length (expansion blocks)) ∷ []
items before (Fixupp subs) =
    let contents = last (filter_map (λ (placed : Placed). contents_in placed.says) before) in
    along [] (λ earlier s. subrecord_item (module_of before) contents (subrecords before ++ earlier) s ∷ []) subs
items before (Modend main (Some reference)) =
    let frame = used (frame_thread (subrecords before)) reference.frame in
    let target = used (target_thread (subrecords before)) reference.target in
    let location : Option CheckFault = elim frame [ Some by.Location ↦ Some FrameOfLocation | _ ↦ None ] in
    first (reference_faults (module_of before) frame target ++ location ∷ []) ∷ []
items before _ = []

-- the first record has to be a header
abbrev pub header_fault : List Placed → Record → Option CheckFault
header_fault [] (Theadr name) = None
header_fault [] _ = Some NotHeader
header_fault (_ ∷ before) record' = None

-- the fault of a record after these
abbrev pub fault : List Placed → Record → Option CheckFault
fault before record' = first (header_fault before record' ∷ items before record')

-- the first fault of the records, with its record's place
abbrev pub first_fault : List Placed → Option (ℕ × CheckFault)
first_fault records =
    first (along [] (λ before (r : Placed). option_map (λ check. (r.place, check)) (fault before r.says) ∷ []) records)
