-- The members of a Unix archive, as `ar` writes it: `!<arch>` and a line end, and then members, each behind a header of
-- 60 bytes at an even place: its name in 16 bytes, the size of its content in decimal at 48, 60H and a line end at 58.
use Rattle.std.specs.Prelude.{ℕ, zero, suc, ◌+◌, ◌-◌, ◌*◌, ◌%◌, ◌==◌, Bool, ◌&&◌, ◌||◌, if◌then◌else◌, nat_lt}
use Rattle.std.specs.Prelude.{nat_le, nat_eq, List, [], ◌∷◌, length, take, drop, slice_index, slice_range, codes}
use Rattle.std.specs.Prelude.{unwrap_or, Some, None, Ok, Err}
use Rattle.std.specs.declared.option.Option.{Option}
use Rattle.std.specs.declared.result.Result.{Result}
use Rattle.std.specs.Char.{is_ascii_digit}
use Rattle.std.specs.Cmp.Lexicographic.{pointwise}
use Rattle.std.specs.List.{list_all, before_first, starts_with}
use Rattle.std.specs.Option.{option_and_then}
use Rattle.omf_library.specs.declared.fault.FormatFault.{FormatFault}
use Rattle.omf_library.specs.declared.fault.FormatFault.TheVariants.{Header, TooLong}
use Rattle.omf_library.specs.declared.fault.LibraryFault.{LibraryFault}
use Rattle.omf_library.specs.declared.fault.LibraryFault.TheVariants.{Malformed}
use Rattle.omf_library.specs.Records.{result_and_then}
use Rattle.omf_library.specs.Members.{PlainMember, joined}

-- ---- fields of a header

-- the bytes without the spaces at their end
abbrev pub without_spaces : List ℕ → List ℕ
without_spaces [] = []
without_spaces (b ∷ bs) = if list_all (λ c. c == 0x20) (b ∷ bs) then [] else b ∷ without_spaces bs

-- the number that these decimal digits spell behind others; none, where another byte stands among them
abbrev pub number_behind : ℕ → List ℕ → Option ℕ
number_behind n [] = Some n
number_behind n (d ∷ ds) = if is_ascii_digit d then number_behind (10 * n + (d - 0x30)) ds else None

-- the number that some decimal digits spell
unfoldable pub decimal : List ℕ → Option ℕ
decimal [] = None
decimal (d ∷ ds) = number_behind 0 (d ∷ ds)

-- the bytes without a slash at their end
unfoldable pub without_slash : List ℕ → List ℕ
without_slash bytes =
    if slice_index bytes (length bytes - 1) == 0x2F then take (length bytes - 1) bytes else bytes

-- ---- members

-- the name that a header has, and the content that follows it
pub record PlainEntry : Type 0 where
  pub name : List ℕ
  pub bytes : List ℕ

-- the content behind a header that gives its size
abbrev pub sized : List ℕ → List ℕ → Option ℕ → Result PlainEntry FormatFault
sized name content None = Err Header
sized name content (Some size) =
    if nat_lt (length content) size then Err TooLong else Ok (record { name = name; bytes = take size content })

-- 60H and a line end close a header
abbrev pub is_header : List ℕ → Bool
is_header bytes = nat_le 60 (length bytes) && (slice_index bytes 58 == 0x60) && (slice_index bytes 59 == 0x0A)

-- the member whose header begins the bytes
unfoldable pub entry_of : List ℕ → Result PlainEntry FormatFault
entry_of bytes =
    if is_header bytes
    then sized (without_spaces (take 16 bytes)) (drop 60 bytes) (decimal (without_spaces (slice_range bytes 48 58)))
    else Err Header

-- a fault as one at this place
abbrev pub at_place : {A : Type 0} → ℕ → Result A FormatFault → Result A LibraryFault
at_place place (Ok x) = Ok x
at_place place (Err fault) = Err (Malformed place fault)

-- the table of long names
abbrev pub is_long_names : List ℕ → Bool
is_long_names name = pointwise nat_eq name (codes "//")

-- a table of names or of symbols is no module
unfoldable pub is_table : List ℕ → Bool
is_table name =
    pointwise nat_eq name (codes "/") || is_long_names name || pointwise nat_eq name (codes "/SYM64/")
    || pointwise nat_eq name (codes "__.SYMDEF") || pointwise nat_eq name (codes "__.SYMDEF SORTED")

-- the line at a place of the table of long names, without the slash at its end; none, where the table ends before
unfoldable pub long_name : List ℕ → ℕ → Option (List ℕ)
long_name table place =
    if nat_lt place (length table) then Some (without_slash (before_first (λ b. b == 0x0A) (drop place table)))
    else None

-- the name of a member: a slash and digits are the place of its line in the table of long names; any other name that
-- begins with a slash, and one whose line the table hasn't, is as it stands; of the rest a slash at the end is no part.
-- A name `#1/` and a length, for which BSD puts the name before the content, is as it stands too (own)
unfoldable pub member_name : List ℕ → List ℕ → List ℕ
member_name table name =
    if starts_with nat_eq name (codes "/")
    then unwrap_or (option_and_then (long_name table) (decimal (drop 1 name))) name
    else without_slash name

-- the member that a header's is, unless it is a table
abbrev pub modules_of : List ℕ → ℕ → PlainEntry → List PlainMember
modules_of table place e = if is_table e.name then [] else
    record { place = place; bytes = e.bytes; name = member_name table e.name } ∷ []

-- the table of long names behind a member: the last so far
abbrev pub table_behind : List ℕ → PlainEntry → List ℕ
table_behind table e = if is_long_names e.name then e.bytes else table

-- the even place from a place on
abbrev pub even_place : ℕ → ℕ
even_place place = place + place % 2

-- the members from a place on, so many at most
abbrev pub members_up_to : ℕ → List ℕ → List ℕ → ℕ → Result (List PlainMember) LibraryFault
members_up_to zero table file place = Ok []
members_up_to (suc most) table file place =
    if nat_le (length file) place then Ok []
    else result_and_then (λ e. joined (modules_of (table_behind table e) (place + 60) e)
    (members_up_to most (table_behind table e) file (even_place (place + 60 + length e.bytes))))
    (at_place place (entry_of (drop place file)))

-- the members of an archive: behind its eight bytes
unfoldable pub archive_members : List ℕ → Result (List PlainMember) LibraryFault
archive_members file = members_up_to (length file) [] file 8
