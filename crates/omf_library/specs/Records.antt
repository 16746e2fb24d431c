-- The records of a file from a place on, up to the first that ends a module (TIS OMF 1.1, "Record Format").
use Rattle.std.specs.Prelude.{ℕ, zero, suc, ◌+◌, ◌==◌, Bool, ◌||◌, if◌then◌else◌, List, [], ◌∷◌, length, drop}
use Rattle.std.specs.Prelude.{Some, None, Ok, Err}
use Rattle.std.specs.declared.option.Option.{Option}
use Rattle.std.specs.declared.result.Result.{Result}
use Rattle.std.specs.Option.{option_map, option_map_or}
use Rattle.std.specs.Result.{result_ok}
use Rattle.omf_frame.specs.Frame.{Frame, frame_of}
use Rattle.omf_frame.specs.declared.reading.FramingFault.{FramingFault}
use Rattle.omf_frame.specs.declared.reading.FramingFault.TheVariants as framing
use Rattle.omf_library.specs.declared.fault.FormatFault.{FormatFault}
use Rattle.omf_library.specs.declared.fault.FormatFault.TheVariants.{ZeroLength, Truncated, Closing}
use Rattle.omf_library.specs.declared.fault.LibraryFault.{LibraryFault}
use Rattle.omf_library.specs.declared.fault.LibraryFault.TheVariants.{Malformed}
use Rattle.omf_library.specs.Fields.{name_front}

-- a fault of the framing, as one of a file; no place is too late in a file
abbrev pub format_fault : FramingFault → FormatFault
format_fault framing.ZeroLength = ZeroLength
format_fault framing.Truncated = Truncated
format_fault framing.Closing = Closing
format_fault framing.InputTooLong = Truncated

-- what begins at the place is a record, or a fault; where nothing does, the file is cut off
abbrev pub record_or_fault : ℕ → Result (Option Frame) FramingFault → Result Frame LibraryFault
record_or_fault place (Ok None) = Err (Malformed place Truncated)
record_or_fault place (Ok (Some record')) = Ok record'
record_or_fault place (Err fault) = Err (Malformed place (format_fault fault))

-- the record at a place of the file
unfoldable pub record_at : List ℕ → ℕ → Result Frame LibraryFault
record_at file place = record_or_fault place (frame_of place (drop place file))

-- where the record behind one begins: its type, its length word and its closing byte are four bytes
abbrev pub place_behind : Frame → ℕ
place_behind f = f.place + (length f.body + 4)

-- MODEND, 8AH or 8BH, ends a module
abbrev pub ends_module : ℕ → Bool
ends_module kind = (kind == 0x8A) || (kind == 0x8B)

-- where a result is a value, what follows it
abbrev pub result_and_then : {A B E : Type 0} → (A → Result B E) → Result A E → Result B E
result_and_then next (Ok x) = next x
result_and_then next (Err e) = Err e

-- the records from a place on, up to the first that ends a module, or before the first that is at fault: of so many at
-- most
abbrev pub records_up_to : ℕ → List ℕ → ℕ → List Frame
records_up_to zero file place = []
records_up_to (suc most) file place = option_map_or
    (λ f. f ∷ (if ends_module f.kind then [] else records_up_to most file (place_behind f)))
    (result_ok (record_at file place)) []

-- all of them: each has a byte at least, so there are no more than bytes
unfoldable pub module_records : List ℕ → ℕ → List Frame
module_records file place = records_up_to (length file) file place

-- where the first of these records that ends a module ends, or what is at fault before
abbrev pub end_within : ℕ → List ℕ → ℕ → Result ℕ LibraryFault
end_within zero file place = Err (Malformed place Truncated)
end_within (suc most) file place = result_and_then
    (λ f. if ends_module f.kind then Ok (place_behind f) else end_within most file (place_behind f))
    (record_at file place)

-- where the module ends that begins at a place of the file
unfoldable pub module_end : List ℕ → ℕ → Result ℕ LibraryFault
module_end file place = end_within (length file) file place

-- ---- what a record says

-- the text behind the type and the class of a comment of this class
abbrev pub text_of_class : ℕ → List ℕ → Option (List ℕ)
text_of_class class [] = None
text_of_class class (kind ∷ []) = None
text_of_class class (kind ∷ its_class ∷ text) = if its_class == class then Some text else None

-- the text of a comment of this class: 88H COMENT
unfoldable pub comment_text : ℕ → Frame → Option (List ℕ)
comment_text class f = if f.kind == 0x88 then text_of_class class f.body else None

-- the name of a module: 80H THEADR, 82H LHEADR
unfoldable pub header_name : Frame → Option (List ℕ)
header_name f =
    if (f.kind == 0x80) || (f.kind == 0x82) then option_map (λ (name, rest). name) (name_front f.body) else None
