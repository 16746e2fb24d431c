-- The symbol table of an archive, as `ar` and `ranlib` write it in front of all members: names, each with the member
-- that defines it. It is looked at only for names that are missing, and nothing is linked by it.
use Rattle.std.specs.Prelude.{ℕ, zero, suc, ◌*◌, ◌/◌, ◌==◌, ◌||◌, Bool, true, false, if◌then◌else◌}
use Rattle.std.specs.Prelude.{List, [], ◌∷◌, ◌++◌, codes, drop, nat_eq, take, Some, None}
use Rattle.std.specs.declared.option.Option.{Option}
use Rattle.std.specs.Int.{from_be_bytes, from_le_bytes, w32, w64}
use Rattle.std.specs.List.{after_first, before_first, starts_with}
use Rattle.std.specs.Option.{option_map_or}

-- a name, and the place in the archive of the header of the member that defines it
pub record Symbol : Type 0 where
  pub name : List ℕ
  pub place : ℕ

-- ---- numbers, each with what stands behind it; none where there are too few bytes

-- one of 32 bits, the highest byte first
abbrev pub short_number : List ℕ → Option (ℕ × List ℕ)
short_number (a ∷ b ∷ c ∷ d ∷ rest) = Some (from_be_bytes w32 (a ∷ b ∷ c ∷ d ∷ []), rest)
short_number bytes = None

-- one of 64 bits, the highest byte first
abbrev pub long_number : List ℕ → Option (ℕ × List ℕ)
long_number (a ∷ b ∷ c ∷ d ∷ e ∷ f ∷ g ∷ h ∷ rest) =
    Some (from_be_bytes w64 (a ∷ b ∷ c ∷ d ∷ e ∷ f ∷ g ∷ h ∷ []), rest)
long_number bytes = None

-- one of 64 bits, or of 32
abbrev pub number : (wide : Bool) → List ℕ → Option (ℕ × List ℕ)
number wide bytes = if wide then long_number bytes else short_number bytes

-- ---- the tables `/` and `/SYM64/`: how many names there are, for each the place of its member, and the names

abbrev pub ends_name : ℕ → Bool
ends_name byte = byte == 0

-- so many names at most, each up to a byte 0, with the places for them
abbrev pub numbered : (left : ℕ) → (wide : Bool) → (places names : List ℕ) → List Symbol
numbered zero wide places names = []
numbered (suc left) wide places [] = []
numbered (suc left) wide places (byte ∷ names) =
    option_map_or (λ p. record { name = before_first ends_name (byte ∷ names); place = p.0 }
    ∷ numbered left wide p.1 (after_first ends_name (byte ∷ names))) (number wide places) []

-- how many bytes a number has
abbrev pub width : (wide : Bool) → ℕ
width wide = if wide then 8 else 4

-- the names of such a table
abbrev pub numbered_table : (wide : Bool) → (table : List ℕ) → List Symbol
numbered_table wide table =
    option_map_or (λ p. numbered p.0 wide p.1 (drop (width wide * p.0) p.1)) (number wide table) []

-- ---- the table `__.SYMDEF` of `ranlib`: pairs of numbers of 32 bits, the lowest byte first, and behind them the names

-- such a number
abbrev pub low_number : List ℕ → Option (ℕ × List ℕ)
low_number (a ∷ b ∷ c ∷ d ∷ rest) = Some (from_le_bytes w32 (a ∷ b ∷ c ∷ d ∷ []), rest)
low_number bytes = None

-- how many bytes of a name count: no name of a module is longer than 255
abbrev pub most_of_name : ℕ
most_of_name = 256

-- the name at a place among the names, up to a byte 0
abbrev pub name_at : (names : List ℕ) → (place : ℕ) → List ℕ
name_at names place = before_first ends_name (take most_of_name (drop place names))

-- so many pairs at most: the place of a name among the names, and the place of its member
abbrev pub paired : (left : ℕ) → (names pairs : List ℕ) → List Symbol
paired zero names pairs = []
paired (suc left) names pairs =
    option_map_or (λ at. option_map_or (λ p. record { name = name_at names at.0; place = p.0 } ∷ paired left names p.1)
    (low_number at.1) []) (low_number pairs) []

-- the names of such a table: how many bytes the pairs have, these, how many the names have, and these
abbrev pub paired_table : (table : List ℕ) → List Symbol
paired_table table = option_map_or (λ pairs. option_map_or (λ names. paired (pairs.0 / 8) names.1 pairs.1)
    (low_number (drop pairs.0 pairs.1)) []) (low_number table) []

-- ---- an archive

-- an archive begins with a member of this name, which fills the 16 bytes of its header
abbrev pub begins_with : (name file : List ℕ) → Bool
begins_with name file = starts_with nat_eq file (codes "!<arch>\n" ++ name)

-- the names of an archive's symbol table, which is its first member, behind a header of 60 bytes; none of other files
abbrev pub symbols : (file : List ℕ) → List Symbol
symbols file =
    if begins_with (codes "/               ") file then numbered_table false (drop 68 file)
    else if begins_with (codes "/SYM64/         ") file then numbered_table true (drop 68 file)
    else if begins_with (codes "__.SYMDEF       ") file || begins_with (codes "__.SYMDEF SORTED") file
    then paired_table (drop 68 file)
    else []
