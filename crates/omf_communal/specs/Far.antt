-- The far communal variables that modules reach by their offsets alone (TIS OMF 1.1, FIXUPP, the location and the
-- frame methods). A far variable has segments of its own, and so a frame that no other segment has: whoever reaches it
-- loads that frame, by a base or a pointer whose frame is that of its name.
use Rattle.std.specs.Prelude.{ℕ, ◌-◌, ◌==◌, Bool, true, false, not, ◌&&◌, if◌then◌else◌, List, [], ◌∷◌, filter, map, slice_get}
use Rattle.std.specs.Prelude.{None, bytes_eq, codes}
use Rattle.std.specs.declared.option.Option.{Option}
use Rattle.std.specs.List.{enumerate_from, filter_map, flat_map, list_any}
use Rattle.std.specs.Option.{option_map, option_map_or}
use Rattle.omf_record.specs.declared.externals.PublicBase.{PublicBase}
use Rattle.omf_record.specs.declared.externals.PublicBase.TheVariants.{AtFrame, InSegment}
use Rattle.omf_record.specs.declared.fixups.FrameMethod.{FrameMethod}
use Rattle.omf_record.specs.declared.fixups.FrameMethod.TheVariants as by
use Rattle.omf_record.specs.declared.fixups.Location.{Location}
use Rattle.omf_record.specs.declared.fixups.Location.TheVariants as at
use Rattle.omf_record.specs.declared.fixups.TargetMethod.{TargetMethod}
use Rattle.omf_record.specs.declared.fixups.TargetMethod.TheVariants as to
use Rattle.omf_module.specs.declared.ResolvedFixup.{ResolvedFixup}
use Rattle.omf_module.specs.Module as says
use Rattle.omf_place.specs.Names.{agrees}
use Rattle.omf_place.specs.declared.names.Names.{Names}
use Rattle.omf_communal.specs.declared.declarations.Extent.{Extent}
use Rattle.omf_communal.specs.declared.declarations.Extent.TheVariants.{Near, Far}
use Rattle.omf_communal.specs.declared.far.Reached as lent
use Rattle.omf_communal.specs.Deciding.{Variable}

-- a location that has an offset, or a byte of one, alone: 0, 1 and 5
abbrev pub is_offset : Location → Bool
is_offset at.LowByte = true
is_offset at.Offset = true
is_offset at.LoaderOffset = true
is_offset _ = false

-- one that has a frame: 2, and 3 with an offset
abbrev pub is_base : Location → Bool
is_base at.Base = true
is_base at.Pointer = true
is_base _ = false

-- the name of the external that is a target; externals count from 1
abbrev pub target_name : says.Module → TargetMethod → Option (List ℕ)
target_name m (to.External index) = option_map (λ e. e.name) (slice_get m.externals (index - 1))
target_name m (to.Segment index) = None
target_name m (to.Group index) = None

-- the name of the external whose frame a reference has: F2 by that external, F5 by the target; F0 and F1 have the frame
-- of a segment or a group, F4 that of the location's segment (TIS OMF 1.1, FIXUPP, the frame methods)
abbrev pub frame_name : says.Module → TargetMethod → FrameMethod → Option (List ℕ)
frame_name m target (by.By method) = target_name m method
frame_name m target by.Location = None
frame_name m target by.Target = target_name m target

-- the name whose offset a fix-up puts down alone
abbrev pub offset_name : says.Module → ResolvedFixup → Option (List ℕ)
offset_name m f = if is_offset f.location then target_name m f.target else None

-- the name whose frame one puts down
abbrev pub base_name : says.Module → ResolvedFixup → Option (List ℕ)
base_name m f = if is_base f.location then frame_name m f.target f.frame else None

-- those of the fix-ups of a module
abbrev pub names_at : (ResolvedFixup → Option (List ℕ)) → says.Module → List (List ℕ)
names_at name m = flat_map (λ d. filter_map name d.fixups) m.data_records

-- the names of far variables
abbrev pub is_far : Extent → Bool
is_far (Near length) = false
is_far (Far count size) = true

abbrev pub far_names : List Variable → List (List ℕ)
far_names vs = map (λ v. v.name) (filter (λ v. is_far v.extent) vs)

-- a segment of far variables
abbrev pub is_far_segment : says.Segment → Bool
is_far_segment s = bytes_eq s.class (codes "FAR_BSS")

-- a place in such a segment, and in no group; segments count from 1
abbrev pub is_far_base : says.Module → PublicBase → Bool
is_far_base m (InSegment group segment) =
    group == 0 && option_map_or is_far_segment (slice_get m.segments (segment - 1)) false
is_far_base m (AtFrame group frame) = false

-- a local public there
abbrev pub is_far_local : says.Module → says.PublicSymbol → Bool
is_far_local m p = p.local && is_far_base m p.base

-- the names of the far variables that are local to a module: it has them as publics then
abbrev pub local_far_names : says.Module → List (List ℕ)
local_far_names m = map (λ p. p.name) (filter (is_far_local m) m.publics)

-- one of these names is this one
abbrev pub is_among : Names → List (List ℕ) → (name : List ℕ) → Bool
is_among names list name = list_any (agrees names name) list

-- an external of a module has a far variable's name, of one that is local to it where the external is, some fix-up at
-- an offset refers to that, and none at a base or a pointer has its frame
abbrev pub is_reached : Names → (far : List (List ℕ)) → says.Module → says.ExternalSymbol → Bool
is_reached names far m e =
    is_among names (if e.local then local_far_names m else far) e.name
    && (is_among names (names_at (offset_name m) m) e.name && not (is_among names (names_at (base_name m) m) e.name))

-- such a name, and the module's place in the program
pub record Reached : Type 0 where
  pub «module» : ℕ
  pub name : List ℕ

abbrev pub reached_said : lent.Reached → Reached
reached_said r = record { «module» = r.«module»; name = r.name.now }

-- those of a module
abbrev pub reached_names : Names → (far : List (List ℕ)) → says.Module → List (List ℕ)
reached_names names far m = map (λ e. e.name) (filter (is_reached names far m) m.externals)

-- of names that agree the first: a module may have two externals of one meaning
abbrev pub firsts : Names → List (List ℕ) → List (List ℕ)
firsts names [] = []
firsts names (name ∷ list) = name ∷ filter (λ other. not (agrees names other name)) (firsts names list)

-- those of the module with an index
abbrev pub reached_at : (index : ℕ) → (name : List ℕ) → Reached
reached_at index name = record { «module» = index; name = name }

abbrev pub reached_in : Names → (far : List (List ℕ)) → ℕ × says.Module → List Reached
reached_in names far p = map (reached_at p.0) (firsts names (reached_names names far p.1))

-- those of a program with these variables, each once, in order of modules and of their externals
abbrev pub far_by_offset : Names → List Variable → List says.Module → List Reached
far_by_offset names vs program = flat_map (reached_in names (far_names vs)) (enumerate_from 0 program)
