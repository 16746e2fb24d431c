-- What a patch is, one question at a time, and what patches do together.
use Rattle.std.specs.Prelude.{ℕ, Bool, List, fold, is_some}
use Rattle.std.specs.List.{filter_map, list_all}
use Rattle.omf_image.specs.declared.patch.Patch.{Patch}
use Rattle.omf_image.specs.Patch.{patched, relocated_place, patch_ends, clear}

-- data with patches added one after the other
abbrev pub patched_all : List Patch → (data' : List ℕ) → List ℕ
patched_all patches data' = fold (λ sum patch. patched patch sum) data' patches

-- each of the first is clear of each of the second
abbrev pub all_clear : List Patch → List Patch → Bool
all_clear firsts seconds = list_all (λ p. list_all (clear p) seconds) firsts

-- whether it is a relocated word
abbrev pub is_relocated : Patch → Bool
is_relocated patch = is_some (relocated_place patch)

-- the places of the relocated words
abbrev pub relocated_places : List Patch → List ℕ
relocated_places patches = filter_map relocated_place patches

-- the place of its first byte
abbrev pub patch_start : Patch → ℕ
patch_start patch = (patch_ends patch).0

-- the place behind its last byte
abbrev pub patch_end : Patch → ℕ
patch_end patch = (patch_ends patch).1
