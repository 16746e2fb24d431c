-- Data at their addresses, and the byte that they give to each address (TIS OMF 1.1, LEDATA and LIDATA).
use Rattle.std.specs.Prelude.{ℕ, ◌+◌, ◌-◌, ◌*◌, Bool, ◌&&◌, nat_le, nat_lt, List, map, filter, fold, length}
use Rattle.std.specs.Prelude.{get_or}

-- bytes at an address
pub record LocatedBytes : Type 0 where
  pub start : ℕ
  pub bytes : List ℕ

-- data has a byte at an address
abbrev pub covers : (address : ℕ) → LocatedBytes → Bool
covers address datum = nat_le datum.start address && nat_lt address (datum.start + length datum.bytes)

-- the byte at an address: that of the last datum that covers it, else 0
abbrev pub located : List LocatedBytes → (address : ℕ) → ℕ
located data' address =
    fold (λ earlier byte. byte) 0 (map (λ d. get_or d.bytes (address - d.start) 0) (filter (covers address) data'))

-- it covers a byte of the page of 4,096 bytes with this number
abbrev pub in_page : (page : ℕ) → LocatedBytes → Bool
in_page page d =
    nat_lt 0 (length d.bytes) && (nat_lt d.start (4096 * (page + 1)) && nat_lt (4096 * page) (d.start + length d.bytes))
