-- The members of a library of DOS, .LIB (TIS OMF 1.1, "Library Module Format"). Its dictionary isn't read.
use Rattle.std.specs.Prelude.{ℕ, zero, suc, ◌+◌, ◌*◌, ◌==◌, Bool, ◌&&◌, if◌then◌else◌, nat_lt, nat_le, List, [], ◌∷◌}
use Rattle.std.specs.Prelude.{length, slice_index, slice_range, unwrap_or, None, Ok, Err}
use Rattle.std.specs.declared.option.Option.{Option}
use Rattle.std.specs.declared.result.Result.{Result}
use Rattle.std.specs.Int.{is_power_of_two, next_multiple_of}
use Rattle.std.specs.Option.{option_map, option_or}
use Rattle.omf_frame.specs.Frame.{Frame}
use Rattle.omf_library.specs.declared.fault.FormatFault.TheVariants.{PageSize, Truncated}
use Rattle.omf_library.specs.declared.fault.LibraryFault.{LibraryFault}
use Rattle.omf_library.specs.declared.fault.LibraryFault.TheVariants.{Malformed}
use Rattle.omf_library.specs.Records.{result_and_then, module_records, module_end, comment_text, header_name}
use Rattle.omf_library.specs.Members.{PlainMember, joined}

-- a page has a power of two of bytes, from 16 to 32,768
abbrev pub is_page_size : ℕ → Bool
is_page_size size = nat_le 16 size && nat_le size 32768 && is_power_of_two size

-- the size of a page: that of the header record, F0H, by its length word
unfoldable pub page_size : List ℕ → Result ℕ LibraryFault
page_size file =
    let size = 3 + (slice_index file 1 + 256 * slice_index file 2) in
    if nat_lt (length file) 3 then Err (Malformed 0 Truncated)
    else if is_page_size size then Ok size
    else Err (Malformed 0 PageSize)

-- the name in a LIBMOD comment, behind the byte of its length; where that byte is another, all of the text
abbrev pub libmod_name : List ℕ → List ℕ
libmod_name [] = []
libmod_name (count ∷ name) = if count == length name then name else count ∷ name

-- what the first record says of which something is said
abbrev pub first_said : (Frame → Option (List ℕ)) → List Frame → Option (List ℕ)
first_said says [] = None
first_said says (f ∷ fs) = option_or (says f) (first_said says fs)

-- the name of a member: that of its LIBMOD comment, else that of its header record, else none
abbrev pub name_of : Option (List ℕ) → Option (List ℕ) → List ℕ
name_of header comment = unwrap_or (option_or (option_map libmod_name comment) header) []

-- by the first of each: a LIBMOD comment is of class A3H
unfoldable pub name_in : List Frame → List ℕ
name_in records = name_of (first_said header_name records) (first_said (comment_text 0xA3) records)

-- the member from a place up to its end
abbrev pub member_between : List ℕ → ℕ → ℕ → PlainMember
member_between file place end = record {
  place = place;
  bytes = slice_range file place end;
  name = name_in (module_records file place);
}

-- the member that begins at a place, or what is at fault in it
unfoldable pub member_at : List ℕ → ℕ → Result PlainMember LibraryFault
member_at file place = result_and_then (λ end. Ok (member_between file place end)) (module_end file place)

-- the members from a place on, up to the end record, F1H: so many at most. Behind each the next multiple of the size of
-- a page is the place of the next
abbrev pub members_up_to : ℕ → ℕ → List ℕ → ℕ → Result (List PlainMember) LibraryFault
members_up_to zero page file place = Err (Malformed place Truncated)
members_up_to (suc most) page file place =
    if nat_le (length file) place then Err (Malformed place Truncated)
    else if slice_index file place == 0xF1 then Ok []
    else result_and_then
    (λ m. joined (m ∷ []) (members_up_to most page file (next_multiple_of (place + length m.bytes) page)))
    (member_at file place)

-- the members of a library: from its first page on
unfoldable pub library_members : List ℕ → Result (List PlainMember) LibraryFault
library_members file = result_and_then (λ page. members_up_to (length file) page file page) (page_size file)
