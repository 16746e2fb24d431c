-- Names of files of DOS: what parts folders, and which of a folder's names is meant.
use Rattle.std.specs.Prelude.{ℕ, ◌==◌, Bool, List, fold, map, if◌then◌else◌}
use Rattle.std.specs.Borrow.{Bor}
use Rattle.std.specs.Char.{to_ascii_lowercase}
use Rattle.std.specs.Str.{bytes_eq}
use Rattle.dos_names.specs.declared.choice.Choice.{Choice}
use Rattle.dos_names.specs.declared.choice.Choice.TheVariants.{Nothing, One, Two}

-- what stands in a path in the place of a byte: `/` in that of `\`
abbrev pub slashed : ℕ → ℕ
slashed byte = if byte == 92 then 47 else byte

-- two names are the same, where small and capital letters of ASCII are the same
abbrev pub is_same_name : (one other : List ℕ) → Bool
is_same_name one other = bytes_eq (map to_ascii_lowercase one) (map to_ascii_lowercase other)

-- the choice among names, once there is one more
abbrev pub with_name : (wanted : List ℕ) → Choice → Bor (List ℕ) → Choice
with_name wanted Nothing name = if is_same_name wanted name.now then One name else Nothing
with_name wanted (One first) name = if is_same_name wanted name.now then Two first name else One first
with_name wanted (Two first second) name = Two first second

-- the names of a folder that are the same as the one that is wanted: none, one, or the first two of them
abbrev pub choice_of : (wanted : List ℕ) → List (Bor (List ℕ)) → Choice
choice_of wanted names = fold (with_name wanted) Nothing names
