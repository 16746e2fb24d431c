-- What stands where a file is to be written, and what a file begins as, by its first bytes. `looks` is what stands at
-- each path, and none where nothing does.
use Rattle.std.specs.Prelude.{ℕ, ◌+◌, ◌*◌, ◌==◌, ◌||◌, ◌&&◌, Bool, IsTrue, true, false, nat_eq, nat_le, take, drop}
use Rattle.std.specs.Prelude.{List, [], ◌∷◌, ◌++◌, codes, bytes_eq, if◌then◌else◌, length, Some, None}
use Rattle.std.specs.declared.option.Option.{Option}
use Rattle.std.specs.declared.cmp.Ordering.{Ordering}
use Rattle.std.specs.BTreeSet.{BTreeSet, contains}
use Rattle.std.specs.List.{list_any, starts_with}
use Rattle.std.specs.Option.{option_map_or}
use Rattle.std.specs.Ordering.{nat_cmp, ordering_then}
use Rattle.std.specs.Path.{rfind_below}
use Rattle.omf_files.specs.declared.world.FileId.{FileId}
use Rattle.omf_files.specs.declared.world.Looked.{Looked}
use Rattle.omf_files.specs.declared.world.PlaceKind.{PlaceKind}
use Rattle.omf_files.specs.declared.world.PlaceKind.TheVariants.{Regular, Folder, Other}

-- A module begins with a header record, THEADR 80H or LHEADR 82H, which holds one name: its length counts the name's
-- length byte, the name and the closing byte.
abbrev pub begins_as_module : List ℕ → Bool
begins_as_module (kind ∷ low ∷ high ∷ name ∷ rest) =
    (kind == 0x80 || kind == 0x82) && low + 256 * high == name + 2
begins_as_module _ = false

-- pages of libraries are so long
abbrev pub is_page : ℕ → Bool
is_page length = list_any (λ page. page == length)
    (16 ∷ 32 ∷ 64 ∷ 128 ∷ 256 ∷ 512 ∷ 1024 ∷ 2048 ∷ 4096 ∷ 8192 ∷ 16384 ∷ 32768 ∷ [])

-- a library begins with a record F0H, which fills its first page
abbrev pub begins_as_library : List ℕ → Bool
begins_as_library (kind ∷ low ∷ high ∷ rest) =
    kind == 0xF0 && is_page (low + 256 * high + 3)
begins_as_library _ = false

-- an archive, or one that only names its members
abbrev pub begins_as_archive : List ℕ → Bool
begins_as_archive file =
    starts_with nat_eq file (codes "!<arch>" ++ 10 ∷ []) || starts_with nat_eq file (codes "!<thin>" ++ 10 ∷ [])

-- any of them
abbrev pub begins_as_input : List ℕ → Bool
begins_as_input front = begins_as_module front || begins_as_library front || begins_as_archive front

-- a file with these bytes begins as one of them
abbrev pub BeginsAsInput : List ℕ → Type 0
BeginsAsInput file = (n : ℕ) × IsTrue (begins_as_input (take n file))

-- two are one file
abbrev pub is_same_file : FileId → FileId → Bool
is_same_file x y = x.device == y.device && x.number == y.number

-- bytes that stay
abbrev pub is_regular : PlaceKind → Bool
is_regular Regular = true
is_regular Folder = false
is_regular Other = false

-- a regular file stands at the path
abbrev pub stands_regular : (looks : List ℕ → Option Looked) → (path : List ℕ) → Bool
stands_regular looks path = option_map_or (λ found. is_regular found.kind) (looks path) false

-- the order of files in a set
abbrev pub file_order : FileId → FileId → Ordering
file_order x y = ordering_then (nat_cmp x.device y.device) (nat_cmp x.number y.number)

-- a set has a file
abbrev pub has_file : BTreeSet FileId → FileId → Bool
has_file files id = contains file_order files id

-- a regular file stands at the path that is one of some files, whatever the paths that led to them
abbrev pub is_one_of : (looks : List ℕ → Option Looked) → (path : List ℕ) → (is_read : FileId → Bool) → Bool
is_one_of looks path is_read =
    option_map_or (λ found. is_regular found.kind && is_read found.id) (looks path) false

-- a path as a folder, which ends at the last of this byte, and a name in it; without one it is a name in this folder
abbrev pub parts_at : (border : ℕ) → List ℕ → List ℕ × List ℕ
parts_at border path = option_map_or (λ last. (take (last + 1) path, drop (last + 1) path))
    (rfind_below border path (length path)) (codes ".", path)

-- of two ways to part a path the one with the shorter name
abbrev pub nearer : (one other : List ℕ × List ℕ) → List ℕ × List ℕ
nearer one other = if nat_le (length one.1) (length other.1) then one else other

-- a path as a folder, which ends at the last `/`, `\` or `:`, and a name in it
abbrev pub parts : List ℕ → List ℕ × List ℕ
parts path = nearer (parts_at 47 path) (nearer (parts_at 92 path) (parts_at 58 path))

-- the same stands at two places
abbrev pub are_same : Option Looked → Option Looked → Bool
are_same (Some first) (Some second) = is_same_file first.id second.id
are_same _ _ = false

-- two are one name in one folder
abbrev pub is_one_name : (looks : List ℕ → Option Looked) → (one other : List ℕ × List ℕ) → Bool
is_one_name looks one other = are_same (looks one.0) (looks other.0) && bytes_eq one.1 other.1

-- two paths are those of one name in one folder: as systems part them whose names may have `\` and `:`, or as others do
abbrev pub are_one_name : (looks : List ℕ → Option Looked) → (one other : List ℕ) → Bool
are_one_name looks one other =
    is_one_name looks (parts_at 47 one) (parts_at 47 other) || is_one_name looks (parts one) (parts other)

-- one regular file stands at two places, or nothing at either, and they have one name in one folder
abbrev pub are_one : (is_name : Bool) → Option Looked → Option Looked → Bool
are_one is_name (Some first) (Some second) = is_regular first.kind && is_same_file first.id second.id
are_one is_name None None = is_name
are_one is_name _ _ = false

-- Two files that are written at these paths would be one: the paths are the same, a regular file stands at both, or
-- nothing stands at either, and they have one name in one folder.
abbrev pub is_one_place : (looks : List ℕ → Option Looked) → (one other : List ℕ) → Bool
is_one_place looks one other =
    bytes_eq one other || are_one (are_one_name looks one other) (looks one) (looks other)
