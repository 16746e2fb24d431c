-- The bytes of a library (TIS OMF 1.1, Appendix 2, "Library File Format").
use Rattle.std.specs.Prelude.{ℕ, ◌+◌, ◌-◌, ◌*◌, ◌/◌, List, [], ◌∷◌, ◌++◌, length, replicate}
use Rattle.std.specs.Int.{next_multiple_of, to_le_bytes, w16, w32}
use Rattle.std.specs.List.{flat_map}

-- bytes with zeros behind them, up to a multiple of the page size
abbrev pub padded : (size : ℕ) → List ℕ → List ℕ
padded size bytes = bytes ++ replicate (next_multiple_of (length bytes) size - length bytes) 0

-- the header, F0H: the record's length, with which it has a page's; the place of the dictionary and its size in blocks;
-- the flag of names whose case counts
abbrev pub header : (size place blocks : ℕ) → List ℕ
header size place blocks =
    padded size (0xF0 ∷ (to_le_bytes w16 (size - 3) ++ to_le_bytes w32 place ++ to_le_bytes w16 blocks ++ 1 ∷ []))

-- the record that ends the members, F1H, up to a place: its length, and zeros
abbrev pub end_record : (len : ℕ) → List ℕ
end_record len = 0xF1 ∷ (to_le_bytes w16 (len - 3) ++ replicate (len - 3) 0)

-- each member begins at a page
unfoldable pub members_bytes : (size : ℕ) → List (List ℕ) → List ℕ
members_bytes size members = flat_map (padded size) members

-- where a dictionary begins behind members: at a multiple of 512, with room for the three bytes of the end record
abbrev pub dictionary_place : (members_end : ℕ) → ℕ
dictionary_place members_end = next_multiple_of (members_end + 3) 512

-- a library with pages of this size, members, and a dictionary
unfoldable pub library_bytes : (size : ℕ) → (members : List (List ℕ)) → (dictionary : List ℕ) → List ℕ
library_bytes size members dictionary =
    let members_end = size + length (members_bytes size members) in
    let place = dictionary_place members_end in
    header size place (length dictionary / 512) ++ members_bytes size members ++ end_record (place - members_end)
    ++ dictionary
