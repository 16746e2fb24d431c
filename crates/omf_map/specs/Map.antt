-- The map of a linked program: its segments, groups and publics, where it starts, and its size. What is out of range in
-- a table has no line.
use Rattle.std.specs.Prelude.{ℕ, if◌then◌else◌, ◌+◌, ◌-◌, ◌*◌, List, [], ◌∷◌, ◌++◌, length, slice_get, Some, None}
use Rattle.std.specs.Prelude.{codes, decimal}
use Rattle.std.specs.declared.option.Option.{Option}
use Rattle.std.specs.List.{concat, flat_map}
use Rattle.std.specs.Option.{option_and_then, option_map_or}
use Rattle.omf_module.specs.declared.Kind.TheVariants as kinds
use Rattle.omf_module.specs.declared.Standing.{Standing}
use Rattle.omf_module.specs.declared.Standing.TheVariants.{Absolute, Relocatable}
use Rattle.omf_module.specs.Module.{Module, Segment, Group, PublicSymbol}
use Rattle.omf_place.specs.declared.layout.Combined.{Combined}
use Rattle.omf_place.specs.declared.layout.GroupPlace.{GroupPlace}
use Rattle.omf_place.specs.declared.layout.Position.{Position}
use Rattle.omf_place.specs.declared.layout.Position.TheVariants as position
use Rattle.omf_place.specs.Layout.{Layout, public}
use Rattle.omf_image.specs.Program.{Program}
use Rattle.omf_text.specs.Printing.{hexadecimal, left, printed_name}

-- ---- segments

-- the word for the kind of a segment
abbrev pub kind_name : Standing → List ℕ
kind_name (Absolute frame offset) = codes "absolute"
kind_name (Relocatable alignment kinds.Private) = codes "private"
kind_name (Relocatable alignment kinds.Public) = codes "public"
kind_name (Relocatable alignment kinds.Stack) = codes "stack"
kind_name (Relocatable alignment kinds.Common) = codes "common"

-- the address, the length, the kind, the name and the class of a segment
abbrev pub segment_line : (start size : ℕ) → Segment → List ℕ
segment_line start size segment =
    concat (hexadecimal 6 start ∷ codes " " ∷ hexadecimal 6 size ∷ codes " " ∷ left 8 (kind_name segment.standing)
    ∷ codes " " ∷ printed_name segment.name ∷ codes " " ∷ printed_name segment.class ∷ codes "\n" ∷ [])

-- a combined segment has the name, the class and the kind of its first part
unfoldable pub combined_line : List Module → Combined → List ℕ
combined_line modules combined = option_map_or (segment_line combined.start (combined.end - combined.start))
    (option_and_then (λ m. slice_get m.segments combined.segment) (slice_get modules combined.input)) []

-- the line of an absolute segment, nothing of another
abbrev pub line_at : Standing → Segment → List ℕ
line_at (Absolute frame offset) segment = segment_line (16 * frame + offset) segment.length segment
line_at (Relocatable alignment kind) segment = []

-- a segment that no linker places
unfoldable pub absolute_line : Segment → List ℕ
absolute_line segment = line_at segment.standing segment

-- ---- groups

-- the paragraph of a group's frame, where it has members
abbrev pub frame_text : Option ℕ → List ℕ
frame_text None = codes "----"
frame_text (Some frame) = hexadecimal 4 frame

-- the frame and the name of a group
abbrev pub named_group : Option ℕ → Group → List ℕ
named_group frame group = concat (frame_text frame ∷ codes " " ∷ printed_name group.name ∷ codes "\n" ∷ [])

-- a group has the name of its first GRPDEF
unfoldable pub group_line : List Module → GroupPlace → List ℕ
group_line modules group = option_map_or (named_group group.frame)
    (option_and_then (λ m. slice_get m.groups group.group) (slice_get modules group.input)) []

-- ---- publics

-- where a public stands: R where it moves with the program, A where it doesn't
abbrev pub address_text : Position → List ℕ
address_text (position.Relocatable bytes frame) = concat (hexadecimal 6 bytes ∷ codes " R" ∷ [])
address_text (position.Absolute bytes frame) = concat (hexadecimal 6 bytes ∷ codes " A" ∷ [])

-- the place and the name of a public
abbrev pub placed_public : List ℕ → Position → List ℕ
placed_public name place = concat (address_text place ∷ codes " " ∷ printed_name name ∷ codes "\n" ∷ [])

-- a public stands where its name does; a local one isn't listed
unfoldable pub public_line : Layout → PublicSymbol → List ℕ
public_line layout symbol =
    if symbol.local then [] else option_map_or (placed_public symbol.name) (public layout symbol.name) []

-- ---- the map

-- the combined segments in the order of placement, then the absolute segments in order of inputs and records
unfoldable pub segment_lines : List Module → Layout → List ℕ
segment_lines modules layout = codes "segments\n" ++ (flat_map (combined_line modules) layout.combined
    ++ flat_map (λ (m : Module). flat_map absolute_line m.segments) modules)

-- in order of first meeting
unfoldable pub group_lines : List Module → Layout → List ℕ
group_lines modules layout = codes "groups\n" ++ flat_map (group_line modules) layout.groups

-- in order of inputs and records
unfoldable pub public_lines : List Module → Layout → List ℕ
public_lines modules layout =
    codes "publics\n" ++ flat_map (λ (m : Module). flat_map (public_line layout) m.publics) modules

-- the registers at the start, the size in bytes, and how many words are relocated
unfoldable pub program_lines : Program → List ℕ
program_lines program =
    concat (codes "entry " ∷ hexadecimal 4 program.registers.cs ∷ codes ":" ∷ hexadecimal 4 program.registers.ip
    ∷ codes "\nstack " ∷ hexadecimal 4 program.registers.ss ∷ codes ":" ∷ hexadecimal 4 program.registers.sp
    ∷ codes "\nsize " ∷ hexadecimal 6 (length program.image)
    ∷ codes "\nrelocations " ∷ decimal (length program.relocations) ∷ codes "\n" ∷ [])

-- the whole map
abbrev pub map_text : List Module → Layout → Program → List ℕ
map_text modules layout program = segment_lines modules layout
    ++ (group_lines modules layout ++ (public_lines modules layout ++ program_lines program))
