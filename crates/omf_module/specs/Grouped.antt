-- The segments of a class as members of a group, and what counts from the group's frame then (TIS OMF 1.1, GRPDEF; FIXUPP
-- and MODEND, the frame methods; PUBDEF, the base group).
use Rattle.std.specs.Prelude.{ℕ, ◌+◌, ◌==◌, ◌&&◌, Bool, false, not, nat_lt, if◌then◌else◌, List, [], ◌∷◌, ◌++◌}
use Rattle.std.specs.Prelude.{length, map, take, unwrap_or, slice_get}
use Rattle.std.specs.Bool.{then_some}
use Rattle.std.specs.List.{enumerate_from, filter_map, list_any}
use Rattle.std.specs.Option.{option_map}
use Rattle.std.specs.Str.{bytes_eq}
use Rattle.omf_record.specs.declared.externals.PublicBase.{PublicBase}
use Rattle.omf_record.specs.declared.externals.PublicBase.TheVariants.{AtFrame, InSegment}
use Rattle.omf_record.specs.declared.fixups.FrameMethod.{FrameMethod}
use Rattle.omf_record.specs.declared.fixups.FrameMethod.TheVariants as by
use Rattle.omf_record.specs.declared.fixups.TargetMethod.{TargetMethod}
use Rattle.omf_record.specs.declared.fixups.TargetMethod.TheVariants as to
use Rattle.omf_module.specs.declared.ResolvedFixup.{ResolvedFixup}
use Rattle.omf_module.specs.declared.Start.{Start}
use Rattle.omf_module.specs.Before.{entry}
use Rattle.omf_module.specs.Faults.{is_absolute}
use Rattle.omf_module.specs.Module.{Segment, Group, PublicSymbol, DataRecord, Module}

-- the greatest index, 7FFFH (TIS OMF 1.1, "Indexed References"): no record names what has a greater one
abbrev pub greatest_index : ℕ
greatest_index = 32767

-- a segment is of the class, and no absolute one
abbrev pub is_of_class : (class : List ℕ) → Segment → Bool
is_of_class class s = bytes_eq s.class class && not (is_absolute s.standing)

-- a segment with its number, counted from 0, joins the group: it is one of the class that no group of its module has
abbrev pub joins : (class : List ℕ) → List Group → ℕ × Segment → Bool
joins class groups (number, s) =
    is_of_class class s && not (list_any (λ g. list_any (λ member. member == number) g.members) groups)

-- of each segment that a record can name, whether it joins
abbrev pub joining : (class : List ℕ) → List Segment → List Group → List Bool
joining class segments groups = map (joins class groups) (enumerate_from 0 (take greatest_index segments))

-- by which of the segments join
module _ (joined : List Bool) where
  -- the members: those that join, counted from 0
  abbrev pub members : List ℕ
  members = filter_map (λ (number, does). then_some does number) (enumerate_from 0 joined)

  -- a target, or a frame that is found as one, is a segment that joins (T0, F0)
  abbrev pub is_member : TargetMethod → Bool
  is_member (to.Segment index) = unwrap_or (entry joined index) false
  is_member _ = false

  -- the frame is a member's: F0 of one; F4, where the location is in its data; F5, where it is the target
  abbrev pub has_members_frame : (here : ℕ) → TargetMethod → FrameMethod → Bool
  has_members_frame here target (by.By method) = is_member method
  has_members_frame here target by.Location = unwrap_or (slice_get joined here) false
  has_members_frame here target by.Target = is_member target

-- by which join, and by the group's index, from 1: what changes
module _ (joined : List Bool) (group : ℕ) where
  -- a member's frame is the group's (F1); all others stay
  abbrev pub frame_in : (here : ℕ) → TargetMethod → FrameMethod → FrameMethod
  frame_in here target frame = if has_members_frame joined here target frame then by.By (to.Group group) else frame

  -- what a public of a member counts from, where it is of no group, is of this one
  abbrev pub base_in : PublicBase → PublicBase
  base_in (AtFrame own frame) = AtFrame own frame
  base_in (InSegment own segment) =
      InSegment (if (own == 0) && is_member joined (to.Segment segment) then group else own) segment

  -- a fix-up on data of a segment
  abbrev pub fixup_in : (here : ℕ) → ResolvedFixup → ResolvedFixup
  fixup_in here fixup = record fixup { frame = frame_in here fixup.target fixup.frame }

  -- data with its fix-ups
  abbrev pub data_in : DataRecord → DataRecord
  data_in data' = record data' { fixups = map (fixup_in data'.segment) data'.fixups }

  -- a public
  abbrev pub public_in : PublicSymbol → PublicSymbol
  public_in public_symbol = record public_symbol { base = base_in public_symbol.base }

  -- a start, whose frame is never that of a location, so no segment is looked up for it
  abbrev pub start_in : Start → Start
  start_in start = record start { frame = frame_in 0 start.target start.frame }

  -- the module with the group, or with a further part of it
  abbrev pub with_part : (name : List ℕ) → Module → Module
  with_part name m = record {
    segments = m.segments;
    groups = m.groups ++ record { name = name; members = members joined } ∷ [];
    externals = m.externals;
    publics = map public_in m.publics;
    data_records = map data_in m.data_records;
    start = option_map start_in m.start;
  }

-- some segment of the module joins
abbrev pub some_join : (class : List ℕ) → Module → Bool
some_join class m = list_any (λ joins. joins) (joining class m.segments m.groups)

-- the module with the segments of a class in a group of this name; as it is, where none joins, and where it has so many
-- parts of groups that no index is left for one more
abbrev pub grouped : (class name : List ℕ) → Module → Module
grouped class name m =
    if some_join class m && nat_lt (length m.groups) greatest_index
    then with_part (joining class m.segments m.groups) (length m.groups + 1) name m else m
