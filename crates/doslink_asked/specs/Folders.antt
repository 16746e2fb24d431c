-- The folders of the environment's LIB.
use Rattle.std.specs.Prelude.{◌==◌, ◌||◌, ◌&&◌, Bool, List, [], ◌∷◌, false, if◌then◌else◌}
use Rattle.std.specs.Char.{is_ascii_alphabetic}
use Rattle.std.specs.List.{flat_map, slice_split}
use Rattle.std.specs.Str.{bytes_eq}
use Rattle.clap.specs.Words.{Text}

-- a path begins with a drive: a letter, `:`, and `\` or `/`
abbrev pub begins_with_drive : Text → Bool
begins_with_drive (letter ∷ colon ∷ slash ∷ _) =
    is_ascii_alphabetic letter && (colon == 58 && (slash == 92 || slash == 47))
begins_with_drive _ = false

-- the folders between `:`, which a drive's doesn't part: what begins with a drive is one
abbrev pub folders_between_colons : Text → List Text
folders_between_colons list =
    if begins_with_drive list then list ∷ [] else slice_split (λ byte. byte == 58) list

-- the folders of a text: `;` stands between them, or `:` where it isn't behind a drive
abbrev pub all_folders : Text → List Text
all_folders list = flat_map folders_between_colons (slice_split (λ byte. byte == 59) list)

-- the folders of the environment's LIB: none where it is empty
abbrev pub library_folders : Text → List Text
library_folders list = if bytes_eq list [] then [] else all_folders list
