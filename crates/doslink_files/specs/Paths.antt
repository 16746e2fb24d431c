-- Paths of files, made of others.
use Rattle.std.specs.Prelude.{ℕ, ◌==◌, ◌||◌, ◌-◌, Bool, List, [], ◌∷◌, ◌++◌, codes, length, map, slice_index}
use Rattle.std.specs.Prelude.{if◌then◌else◌}
use Rattle.std.specs.List.{flat_map, list_any}

-- a byte stands between the parts of a path: `/`, `\` or `:`
abbrev pub is_separator : ℕ → Bool
is_separator byte = byte == 47 || byte == 92 || byte == 58

-- what stands behind the last separator of a rest of a path, and a name where there is none
abbrev pub behind_last : (name rest : List ℕ) → List ℕ
behind_last name [] = name
behind_last name (byte ∷ rest) = behind_last (if is_separator byte then rest else name) rest

-- the last part of a path
abbrev pub last_part : List ℕ → List ℕ
last_part path = behind_last path path

-- the last part of a path has a dot
abbrev pub has_extension : List ℕ → Bool
has_extension path = list_any (λ byte. byte == 46) (last_part path)

-- what stands between a folder and a name in it: nothing behind a separator, nor behind no folder
abbrev pub joint : (folder : List ℕ) → List ℕ
joint [] = []
joint (byte ∷ folder) =
    if is_separator (slice_index (byte ∷ folder) (length (byte ∷ folder) - 1)) then [] else 47 ∷ []

-- the path of a file in a folder
abbrev pub in_folder : (folder name : List ℕ) → List ℕ
in_folder folder name = folder ++ joint folder ++ name

-- what is put behind a library's name
abbrev pub extensions : (name : List ℕ) → List (List ℕ)
extensions name = if has_extension name then [] ∷ [] else [] ∷ codes ".LIB" ∷ codes ".lib" ∷ []

-- what is put behind the path of a module
abbrev pub object_extensions : (path : List ℕ) → List (List ℕ)
object_extensions path = if has_extension path then [] ∷ [] else [] ∷ codes ".OBJ" ∷ codes ".obj" ∷ []

-- the paths at which a file of this name is looked up in a folder: with each of some extensions behind it
abbrev pub paths_in : (extensions : List (List ℕ)) → (name folder : List ℕ) → List (List ℕ)
paths_in extensions name folder = map (λ extension. in_folder folder (name ++ extension)) extensions

-- the same in this folder, and then in each of the others, in their order
abbrev pub paths_of : (extensions folders : List (List ℕ)) → (name : List ℕ) → List (List ℕ)
paths_of extensions folders name = flat_map (paths_in extensions name) ([] ∷ folders)
