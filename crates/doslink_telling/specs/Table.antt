-- The table behind a map: each module with its segments.
use Rattle.std.specs.Prelude.{ℕ, ◌==◌, ◌&&◌, ◌||◌, nat_le, if◌then◌else◌, List, [], ◌∷◌, ◌++◌, codes, length}
use Rattle.std.specs.Prelude.{slice_get, take, Some, None}
use Rattle.std.specs.declared.option.Option.{Option}
use Rattle.std.specs.List.{concat, enumerate_from, flat_map}
use Rattle.std.specs.Option.{unwrap_or}
use Rattle.omf_module.specs.Module.{Module, Segment}
use Rattle.omf_place.specs.declared.layout.Position.{Position}
use Rattle.omf_place.specs.declared.layout.Position.TheVariants as position
use Rattle.omf_place.specs.Layout.{Layout, segment_position}
use Rattle.omf_text.specs.Printing.{hexadecimal, printed_name}

-- an address, and `R` where it moves with the program, else `A`
abbrev pub address_text : Position → List ℕ
address_text (position.Relocatable start frame) = concat (hexadecimal 6 start ∷ codes " R" ∷ [])
address_text (position.Absolute start frame) = concat (hexadecimal 6 start ∷ codes " A" ∷ [])

-- a segment: where it starts, its length, its name and its class
abbrev pub segment_line : Position → Segment → List ℕ
segment_line place segment = concat (codes " " ∷ address_text place ∷ codes " " ∷ hexadecimal 6 segment.length
    ∷ codes " " ∷ printed_name segment.name ∷ codes " " ∷ printed_name segment.class ∷ codes "\n" ∷ [])

-- the segments of the module with this index
abbrev pub segment_lines : Layout → ℕ × Module → List ℕ
segment_lines layout p =
    flat_map (λ s. segment_line (segment_position layout p.0 s.0) s.1) (enumerate_from 0 p.1.segments)

-- the name in the record that heads a module (TIS OMF 1.1, "THEADR" and "LHEADR"), where its bytes begin with one: it
-- stands behind the record's type, its length word and a byte of the name's length
abbrev pub header_name : List ℕ → Option (List ℕ)
header_name (kind ∷ low ∷ high ∷ len ∷ rest) =
    if (kind == 0x80 || kind == 0x82) && nat_le len (length rest) then Some (take len rest) else None
header_name bytes = None

-- a module: the name in its header, and the word for where it stands
abbrev pub module_line : (word bytes : List ℕ) → List ℕ
module_line word bytes =
    concat (printed_name (unwrap_or (header_name bytes) []) ∷ codes " " ∷ word ∷ codes "\n" ∷ [])

-- the module with this index, and its segments
abbrev pub module_lines : Layout → (inputs words : List (List ℕ)) → ℕ × Module → List ℕ
module_lines layout inputs words p =
    module_line (unwrap_or (slice_get words p.0) []) (unwrap_or (slice_get inputs p.0) []) ++ segment_lines layout p

-- the modules that were linked, whose bytes and words these are
abbrev pub table : List Module → Layout → (inputs words : List (List ℕ)) → List ℕ
table modules layout inputs words =
    codes "modules\n" ++ flat_map (module_lines layout inputs words) (enumerate_from 0 modules)
