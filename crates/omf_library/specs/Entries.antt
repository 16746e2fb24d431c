-- The entries of which the bodies of records with names are lists, or one (TIS OMF 1.1, the section of each). An index
-- of a name counts the names of LNAMES and LLNAMES so far from 1 on.
use Rattle.std.specs.Prelude.{ℕ, zero, suc, ◌==◌, if◌then◌else◌, nat_lt, List, [], ◌∷◌, length, slice_get, bit_and}
use Rattle.std.specs.Prelude.{Some, None}
use Rattle.std.specs.declared.option.Option.{Option}
use Rattle.std.specs.Option.{option_map, option_map_or, option_and_then}
use Rattle.omf_library.specs.Fields.{bytes_front, name_front, index_front, behind, followed}

-- the entries at the front of the bytes, as far as they hold whole ones: so many at most
abbrev pub entries_up_to : {A : Type 0} → ℕ → (List ℕ → Option (A × List ℕ)) → List ℕ → List A
entries_up_to zero front bytes = []
entries_up_to (suc most) front bytes =
    option_map_or (λ (x, rest). x ∷ entries_up_to most front rest) (front bytes) []

-- all of them: each has a byte at least
unfoldable pub entries : {A : Type 0} → (List ℕ → Option (A × List ℕ)) → List ℕ → List A
entries front bytes = entries_up_to (length bytes) front bytes

-- EXTDEF: a name and a type index
abbrev pub external_front : List ℕ → Option (List ℕ × List ℕ)
external_front bytes = followed index_front (name_front bytes)

-- the bytes behind so many
abbrev pub behind_bytes : ℕ → List ℕ → Option (List ℕ)
behind_bytes count bytes = option_map (λ (skipped, rest). rest) (bytes_front count bytes)

-- the bytes behind a length: one byte up to 80H; else 81H, 84H or 88H, and two, three or four bytes
unfoldable pub behind_length : List ℕ → Option (List ℕ)
behind_length [] = None
behind_length (first ∷ rest) =
    if nat_lt first 0x81 then Some rest
    else if first == 0x81 then behind_bytes 2 rest
    else if first == 0x84 then behind_bytes 3 rest
    else if first == 0x88 then behind_bytes 4 rest
    else None

-- the bytes behind two
abbrev pub behind_lengths : List ℕ → Option (List ℕ)
behind_lengths bytes = option_and_then behind_length (behind_length bytes)

-- the bytes behind the lengths of a data type: 62H, near, has one; 61H, far, how many elements and the length of one
abbrev pub behind_lengths_of : ℕ → List ℕ → Option (List ℕ)
behind_lengths_of data_type bytes =
    if data_type == 0x62 then behind_length bytes
    else if data_type == 0x61 then behind_lengths bytes
    else None

-- a data type, behind which its lengths stand
unfoldable pub data_type_front : List ℕ → Option (ℕ × List ℕ)
data_type_front [] = None
data_type_front (data_type ∷ rest) = option_map (λ after. (data_type, after)) (behind_lengths_of data_type rest)

-- COMDEF: a name, a type index, a data type with its lengths
abbrev pub variable_front : List ℕ → Option (List ℕ × List ℕ)
variable_front bytes = followed data_type_front (followed index_front (name_front bytes))

-- CEXTDEF: the index of a name, and a type index
abbrev pub communal_front : List ℕ → Option (ℕ × List ℕ)
communal_front bytes = followed index_front (index_front bytes)

-- PUBDEF, behind the base: a name, an offset of so many bytes, a type index
abbrev pub public_front : ℕ → List ℕ → Option (List ℕ × List ℕ)
public_front offset bytes = followed index_front (followed (bytes_front offset) (name_front bytes))

-- ALIAS: a name, and the name that it stands for
abbrev pub alias_front : List ℕ → Option (List ℕ × List ℕ)
alias_front bytes = followed name_front (name_front bytes)

-- behind a segment index: a frame word where it is 0
abbrev pub behind_segment : ℕ × List ℕ → Option (List ℕ)
behind_segment (segment, rest) =
    if segment == 0 then option_map (λ (frame, after). after) (bytes_front 2 rest) else Some rest

-- what stands behind the base of publics: a group index, a segment index, and a frame word where the segment index is 0
unfoldable pub behind_base : List ℕ → Option (List ℕ)
behind_base bytes = option_and_then behind_segment (behind index_front (index_front bytes))

-- what stands behind the base in COMDAT: there is one where the attributes say that the allocation is explicit
abbrev pub behind_allocation : ℕ → List ℕ → Option (List ℕ)
behind_allocation attributes bytes = if bit_and attributes 0x0F == 0 then behind_base bytes else Some bytes

-- the index of the name in COMDAT behind flags, attributes and alignment: an offset, a type index, a base, the name
abbrev pub comdat_index : ℕ → ℕ → List ℕ → Option ℕ
comdat_index offset attributes bytes = option_map (λ (name, rest). name) (option_and_then index_front
    (option_and_then (λ (type_index, rest). behind_allocation attributes rest)
    (behind index_front (bytes_front offset bytes))))

-- that of a COMDAT with an offset of so many bytes that isn't local: bit 2 of its flags is clear
unfoldable pub comdat_name : ℕ → List ℕ → Option ℕ
comdat_name offset (flags ∷ attributes ∷ alignment ∷ rest) =
    if bit_and flags 0x04 == 0 then comdat_index offset attributes rest else None
comdat_name offset (flags ∷ attributes ∷ []) = None
comdat_name offset (flags ∷ []) = None
comdat_name offset [] = None

-- the name with this index
abbrev pub listed_name : List (List ℕ) → ℕ → Option (List ℕ)
listed_name listed zero = None
listed_name listed (suc before) = slice_get listed before
