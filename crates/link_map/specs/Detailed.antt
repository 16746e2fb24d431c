-- The detailed map of segments, as the option /s of TLINK asks for it: a row for each module's part of a segment.
use Rattle.std.specs.Prelude.{ℕ, ◌+◌, ◌-◌, ◌*◌, ◌==◌, Bool, ◌||◌, if◌then◌else◌, List, [], ◌∷◌, ◌++◌, codes, find}
use Rattle.std.specs.Prelude.{get_or, length}
use Rattle.std.specs.Prelude.{map, replicate, slice_get, take, Some, None}
use Rattle.std.specs.declared.option.Option.{Option}
use Rattle.std.specs.List.{concat, enumerate_from, flat_map, list_any}
use Rattle.std.specs.Option.{unwrap_or}
use Rattle.std.specs.Ordering.{is_lt, nat_cmp}
use Rattle.omf_frame.specs.Frame.{Frame}
use Rattle.omf_library.specs.Records.{module_records}
use Rattle.omf_lines.specs.Lines.{module_name}
use Rattle.omf_module.specs.Module.{Group, Module, Segment}
use Rattle.omf_module.specs.declared.Kind.{Kind}
use Rattle.omf_module.specs.declared.Kind.TheVariants.{Private, Stack, Common}
use Rattle.omf_module.specs.declared.Kind.TheVariants.{Public as Public'}
use Rattle.omf_module.specs.declared.Standing.{Standing}
use Rattle.omf_module.specs.declared.Standing.TheVariants as standing
use Rattle.omf_module.specs.declared.Standing.TheVariants.{Absolute}
use Rattle.omf_place.specs.Layout.{Layout, ModulePlaces, places_of, segment_position}
use Rattle.omf_place.specs.declared.layout.Position.{Position}
use Rattle.omf_place.specs.declared.layout.Position.TheVariants.{Relocatable}
use Rattle.omf_text.specs.Printing.{hexadecimal}
use Rattle.link_map.specs.Ordered.{ordered}
use Rattle.link_map.specs.Public.{Public}
use Rattle.link_map.specs.Publics.{address_of, listed_at}

-- ---- a part of a segment

-- its address in bytes; where it stands, as a public of the segment's name would be listed; its length; the names of
-- its class, its group and its module; and its attributes
pub record Part : Type 0 where
  pub address : ℕ
  pub place : Public
  pub length : ℕ
  pub class : List ℕ
  pub group : List ℕ
  pub module_name : List ℕ
  pub attributes : ℕ

-- by address
abbrev pub by_address : Part → Part → Bool
by_address one other = is_lt (nat_cmp one.address other.address)

-- the blanks behind a name, up to the end of so many columns
abbrev pub blanks : (width : ℕ) → (name : List ℕ) → List ℕ
blanks width name = replicate (width - length name) 32

-- its row
unfoldable pub part_line : Part → List ℕ
part_line part =
    concat (codes " " ∷ hexadecimal 4 part.place.frame ∷ codes ":" ∷ hexadecimal 4 part.place.offset ∷ codes " "
    ∷ hexadecimal 4 part.length ∷ codes " C=" ∷ part.class ∷ blanks 6 part.class ∷ codes " S=" ∷ part.place.name
    ∷ blanks 14 part.place.name ∷ codes " G=" ∷ part.group ∷ blanks 7 part.group ∷ codes " M=" ∷ part.module_name
    ∷ blanks 9 part.module_name ∷ codes " ACBP=" ∷ hexadecimal 2 part.attributes ∷ codes "\n" ∷ [])

-- ---- its attributes (TIS OMF 1.1, "98H or 99H SEGDEF: Segment Definition Record")

-- the first byte of a SEGDEF, as it stands there: the alignment A, the combination C, B of a segment of 65,536 bytes,
-- and P
unfoldable pub attribute_byte : Frame → List ℕ
attribute_byte f = if (f.kind == 0x98) || (f.kind == 0x99) then take 1 f.body else []

-- those of the module that begins the bytes, in order of records
abbrev pub attribute_bytes : (bytes : List ℕ) → List ℕ
attribute_bytes bytes = flat_map attribute_byte (module_records bytes 0)

-- A: 0 of an absolute one, then by its alignment at a byte, a word, a paragraph, a page of 256 bytes, a double word
abbrev pub alignment_field : Standing → ℕ
alignment_field (Absolute frame offset) = 0
alignment_field (standing.Relocatable alignment kind) =
    if alignment == 1 then 1
    else if alignment == 2 then 2
    else if alignment == 16 then 3
    else if alignment == 256 then 4
    else 5

-- C
abbrev pub combination_field : Kind → ℕ
combination_field Private = 0
combination_field Public' = 2
combination_field Stack = 5
combination_field Common = 6

-- the same of one that stands there, if it isn't absolute
abbrev pub combination_of : Standing → ℕ
combination_of (Absolute frame offset) = 0
combination_of (standing.Relocatable alignment kind) = combination_field kind

-- what they are of a segment that none of these records defines, as one that a linker adds; P is 0
abbrev pub attributes_of : Standing → (length : ℕ) → ℕ
attributes_of standing length =
    32 * alignment_field standing + (4 * combination_of standing + (if length == 65536 then 2 else 0))

-- ---- its group (TIS OMF 1.1, "9AH GRPDEF: Group Definition Record")

-- a GRPDEF has the segment with this index among its components
abbrev pub has : (segment : ℕ) → ℕ × Group → Bool
has segment (index, group) = list_any (λ member. member == segment) group.members

-- the first of a module's GRPDEFs that has it, with its index
abbrev pub group_of : List Group → (segment : ℕ) → Option (ℕ × Group)
group_of groups segment = find (has segment) (enumerate_from 0 groups)

-- its name, or what stands for none
abbrev pub group_name : Option (ℕ × Group) → List ℕ
group_name None = codes "(none)"
group_name (Some (index, group)) = group.name

-- where a segment stands: counted from the frame of its group, where it is in one, and else from its own
abbrev pub position_in : ModulePlaces → (group : Option (ℕ × Group)) → Position → Position
position_in places (Some (index, group)) (Relocatable address own) =
    Relocatable address (get_or places.groups index own)
position_in places group position = position

-- ---- those of a program

-- that of a segment, by its index in a module, which is the input with this index and has this name, and the first
-- segments of which have these attributes
abbrev pub part_of : Layout → (name attributes : List ℕ) → ℕ × Module → ℕ × Segment → Part
part_of layout name attributes (input, m) (index, segment) =
    let group = group_of m.groups index in
    let position = position_in (places_of layout input) group (segment_position layout input index) in
    record {
      address = address_of position;
      place = listed_at segment.name position;
      length = segment.length;
      class = segment.class;
      group = group_name group;
      module_name = name;
      attributes = unwrap_or (slice_get attributes index) (attributes_of segment.standing segment.length);
    }

-- of each segment of a module that these bytes begin with
abbrev pub module_parts : Layout → (bytes : List ℕ) → ℕ × Module → List Part
module_parts layout bytes p =
    map (part_of layout (module_name bytes) (attribute_bytes bytes) p) (enumerate_from 0 p.1.segments)

-- of all modules, which these inputs begin with, in order of inputs and records
abbrev pub parts : List Module → Layout → (inputs : List (List ℕ)) → List Part
parts modules layout inputs =
    flat_map (λ p. module_parts layout (unwrap_or (slice_get inputs p.0) []) p) (enumerate_from 0 modules)

-- the detailed map: the parts in order of address, and those of one address as they came
abbrev pub detail_lines : List Module → Layout → (inputs : List (List ℕ)) → List ℕ
detail_lines modules layout inputs = codes "\n Detailed map of segments\n\n"
    ++ flat_map part_line (ordered by_address (parts modules layout inputs))
