-- Fields at the front of bytes (TIS OMF 1.1, "Frequent Object Record Subfields"): what a field says, and the bytes that
-- stand behind it; none, where the bytes end inside it.
use Rattle.std.specs.Prelude.{ℕ, ◌+◌, ◌-◌, ◌*◌, nat_lt, if◌then◌else◌, List, [], ◌∷◌, length, take, drop, Some, None}
use Rattle.std.specs.declared.option.Option.{Option}
use Rattle.std.specs.Option.{option_map, option_and_then}

-- a field of so many bytes
abbrev pub bytes_front : ℕ → List ℕ → Option (List ℕ × List ℕ)
bytes_front count bytes = if nat_lt (length bytes) count then None else Some (take count bytes, drop count bytes)

-- a name, behind the byte of its length
abbrev pub name_front : List ℕ → Option (List ℕ × List ℕ)
name_front [] = None
name_front (count ∷ rest) = bytes_front count rest

-- the low byte of an index, behind the byte that has its high part
abbrev pub low_front : ℕ → List ℕ → Option (ℕ × List ℕ)
low_front first [] = None
low_front first (second ∷ rest) = Some (256 * (first - 128) + second, rest)

-- an index: one byte below 128, or two bytes, the first of which is 128 and the high part
abbrev pub index_front : List ℕ → Option (ℕ × List ℕ)
index_front [] = None
index_front (first ∷ rest) = if nat_lt first 128 then Some (first, rest) else low_front first rest

-- the field behind another one
abbrev pub behind : {A B : Type 0} → (List ℕ → Option (B × List ℕ)) → Option (A × List ℕ) → Option (B × List ℕ)
behind front = option_and_then (λ (x, rest). front rest)

-- a field, of which it is known that another one follows; the bytes are those behind both
abbrev pub followed : {A B : Type 0} → (List ℕ → Option (B × List ℕ)) → Option (A × List ℕ) → Option (A × List ℕ)
followed front = option_and_then (λ (x, rest). option_map (λ (y, after). (x, after)) (front rest))
