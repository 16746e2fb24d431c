-- Marks that tell where earlier fix-ups of a data record may not be touched.
use Rattle.std.specs.Prelude.{◌≡◌, ℕ, ◌<◌, Bool, false, ◌&&◌, nat_le, nat_lt, List, length, get_or}
use Rattle.std.specs.List.{list_any}
use Rattle.omf_image.specs.declared.patch.Patch.{Patch}
use Rattle.omf_image.specs.inside.Patches.{is_relocated, patch_start, patch_end}

-- a patch has a byte at a place of the data
abbrev pub touches : (place : ℕ) → Patch → Bool
touches place patch = nat_le (patch_start patch) place && nat_lt place (patch_end patch)

-- as part of a relocated word
abbrev pub touches_relocated : (place : ℕ) → Patch → Bool
touches_relocated place patch = is_relocated patch && touches place patch

-- which bytes of the data earlier patches touch, and which of them are in relocated words
pub record IsMarked (touched relocated : List Bool) (earlier : List Patch) : Type 0 where
  pub touches_told : (k : ℕ) → k < length touched → get_or touched k false ≡ list_any (touches k) earlier
  pub relocated_told : (k : ℕ) → k < length relocated
      → get_or relocated k false ≡ list_any (touches_relocated k) earlier

-- each byte was stored at its own position, as data that isn't repeated is
abbrev pub IsPlain : List ℕ → Type 0
IsPlain stored = (k : ℕ) → k < length stored → get_or stored k 0 ≡ k
