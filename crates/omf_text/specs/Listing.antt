-- The head line of a record in a listing.
use Rattle.std.specs.Prelude.{ℕ, ◌==◌, if◌then◌else◌, List, [], ◌∷◌, codes, decimal}
use Rattle.std.specs.List.{concat}
use Rattle.omf_text.specs.Printing.{hexadecimal, left, right}

-- the name of a record's type, empty for a type that isn't one of the fourteen
unfoldable pub record_name : ℕ → List ℕ
record_name kind =
    if kind == 0x80 then codes "THEADR" else if kind == 0x88 then codes "COMENT"
    else if kind == 0x8A then codes "MODEND" else if kind == 0x8C then codes "EXTDEF"
    else if kind == 0x90 then codes "PUBDEF" else if kind == 0x94 then codes "LINNUM"
    else if kind == 0x96 then codes "LNAMES" else if kind == 0x98 then codes "SEGDEF"
    else if kind == 0x9A then codes "GRPDEF" else if kind == 0x9C then codes "FIXUPP"
    else if kind == 0xA0 then codes "LEDATA" else if kind == 0xA2 then codes "LIDATA"
    else if kind == 0xB4 then codes "LEXTDEF" else if kind == 0xB6 then codes "LPUBDEF" else []

-- the head line of a record, by its place, its type and the length of its body
unfoldable pub head_line : (place kind length : ℕ) → List ℕ
head_line place kind length =
    concat (hexadecimal 8 place ∷ codes " " ∷ hexadecimal 2 kind ∷ codes " " ∷ left 7 (record_name kind)
    ∷ codes " " ∷ right 5 (decimal length) ∷ codes "\n" ∷ [])
