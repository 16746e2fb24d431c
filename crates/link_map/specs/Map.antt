-- The map of a linked program in the form of Microsoft's LINK, or of Borland's TLINK: segments in order of address,
-- groups, publics by name and by value, and where the program starts; the modules' parts of segments and line numbers
-- where they are asked for. Debuggers and disassemblers read it. What is out of range in a table has no line.
use Rattle.std.specs.Prelude.{◌≡◌, ℕ, ◌+◌, ◌-◌, ◌==◌, if◌then◌else◌, List, [], ◌∷◌, ◌++◌, slice_get, length, replicate}
use Rattle.std.specs.Prelude.{codes, Some, None, Err}
use Rattle.std.specs.declared.option.Option.{Option}
use Rattle.std.specs.declared.result.Result.{Result}
use Rattle.std.specs.List.{concat, flat_map}
use Rattle.std.specs.Option.{option_and_then, option_map_or}
use Rattle.omf_frame.specs.Device.{Writes}
use Rattle.omf_module.specs.Module.{Module, Segment, Group}
use Rattle.omf_place.specs.declared.layout.Combined.{Combined}
use Rattle.omf_place.specs.declared.layout.GroupPlace.{GroupPlace}
use Rattle.omf_place.specs.Layout.{Layout}
use Rattle.omf_image.specs.declared.start.Registers.{Registers}
use Rattle.omf_image.specs.Program.{Program}
use Rattle.omf_text.specs.Printing.{hexadecimal}
use Rattle.link_map.specs.Detailed.{detail_lines}
use Rattle.link_map.specs.Numbers.{number_lines}
use Rattle.link_map.specs.Ordered.{ordered}
use Rattle.link_map.specs.Public.{Public, by_name, by_value, public_line}
use Rattle.link_map.specs.Publics.{publics}
use Rattle.link_map.specs.declared.form.MapForm.{MapForm}
use Rattle.link_map.specs.declared.form.MapForm.TheVariants.{Link, Tlink}
use Rattle.link_map.specs.declared.form.Shown.{Shown}
use Rattle.link_map.specs.declared.fault.MapFault.{MapFault}
use Rattle.link_map.specs.declared.fault.MapFault.TheVariants.{Memory}

-- ---- segments

-- the heading of the segments
abbrev pub heading : MapForm → List ℕ
heading Link = codes "\n Start  Stop   Length Name                   Class\n"
heading Tlink = codes "\n Start  Stop   Length Name               Class\n\n"

-- the columns of a name
abbrev pub name_width : MapForm → ℕ
name_width Link = 22
name_width Tlink = 18

-- the address of the last byte; of a segment of length 0 that of its start
abbrev pub stop : (start size : ℕ) → ℕ
stop start size = if size == 0 then start else start + size - 1

-- the addresses of the first byte and of the last, the length, the name in its columns, and the class
abbrev pub segment_line : MapForm → (start size : ℕ) → Segment → List ℕ
segment_line form start size segment =
    concat (codes " " ∷ hexadecimal 5 start ∷ codes "H " ∷ hexadecimal 5 (stop start size) ∷ codes "H "
    ∷ hexadecimal 5 size ∷ codes "H " ∷ segment.name ∷ replicate (name_width form - length segment.name) 32
    ∷ codes " " ∷ segment.class ∷ codes "\n" ∷ [])

-- a combined segment has the name and the class of its first part
unfoldable pub combined_line : MapForm → List Module → Combined → List ℕ
combined_line form modules combined =
    option_map_or (segment_line form combined.start (combined.end - combined.start))
    (option_and_then (λ m. slice_get m.segments combined.segment) (slice_get modules combined.input)) []

-- in the order of placement, in which addresses rise
unfoldable pub segment_lines : MapForm → List Module → Layout → List ℕ
segment_lines form modules layout = heading form ++ flat_map (combined_line form modules) layout.combined

-- ---- groups

-- the frame and the name of a group that has members; nothing of another
abbrev pub named_group : Option ℕ → Group → List ℕ
named_group None group = []
named_group (Some frame) group =
    concat (codes " " ∷ hexadecimal 4 frame ∷ codes ":0   " ∷ group.name ∷ codes "\n" ∷ [])

-- a group has the name of its first GRPDEF
unfoldable pub group_line : List Module → GroupPlace → List ℕ
group_line modules group = option_map_or (named_group group.frame)
    (option_and_then (λ m. slice_get m.groups group.group) (slice_get modules group.input)) []

-- in order of first meeting
unfoldable pub group_lines : MapForm → List Module → Layout → List ℕ
group_lines Link modules layout = codes "\n Origin   Group\n" ++ flat_map (group_line modules) layout.groups
group_lines Tlink modules layout = []

-- ---- publics

-- lines of publics in two orders, each behind its heading
abbrev pub order_lines : (names values : List Public) → List ℕ
order_lines names values =
    codes "\n  Address         Publics by Name\n\n" ++ (flat_map public_line names
    ++ (codes "\n  Address         Publics by Value\n\n" ++ flat_map public_line values))

-- the publics, ordered by their names, and ordered by where they stand
abbrev pub public_lines : List Module → Layout → List ℕ
public_lines modules layout =
    order_lines (ordered by_name (publics modules layout)) (ordered by_value (publics modules layout))

-- ---- the map

-- where the program starts
abbrev pub start_line : Registers → List ℕ
start_line registers =
    concat (codes "\nProgram entry point at " ∷ hexadecimal 4 registers.cs ∷ codes ":" ∷ hexadecimal 4 registers.ip
    ∷ codes "\n" ∷ [])

-- the whole map
abbrev pub link_map_text : MapForm → List Module → Layout → Program → List ℕ
link_map_text form modules layout program = segment_lines form modules layout
    ++ (group_lines form modules layout ++ (public_lines modules layout ++ start_line program.registers))

-- the same with the line numbers of the modules, which these inputs begin with, whose files are those, behind the
-- publics
abbrev pub numbered_map_text : MapForm → List Module → Layout → Program → (inputs files : List (List ℕ)) → List ℕ
numbered_map_text form modules layout program inputs files = segment_lines form modules layout
    ++ (group_lines form modules layout ++ (public_lines modules layout
    ++ (number_lines modules layout inputs files ++ start_line program.registers)))

-- the same with what is shown besides: the detailed map of segments in front of the publics, and the line numbers
abbrev pub shown_map_text : Shown → List Module → Layout → Program → (inputs files : List (List ℕ)) → List ℕ
shown_map_text shown modules layout program inputs files = segment_lines shown.form modules layout
    ++ (group_lines shown.form modules layout
    ++ ((if shown.details then detail_lines modules layout inputs else [])
    ++ (public_lines modules layout
    ++ ((if shown.line_numbers then number_lines modules layout inputs files else [])
    ++ start_line program.registers))))

-- what an answer says: a text was written, or a front of it; or there was no memory, and the sink is as it was
abbrev pub WritesMap : {K X : Type 0} → (written : K → Option (List ℕ)) → (failures : K → ℕ) → (old new : K)
    → (text : List ℕ) → Result X MapFault → Type 0
WritesMap written failures old new text (Err Memory) = new ≡ old
WritesMap written failures old new text answer = Writes written failures old new text answer
