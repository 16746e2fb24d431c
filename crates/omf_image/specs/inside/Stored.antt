-- Repeated data while its fix-ups are added once, to its bytes as they were stored, for all copies of a byte.
use Rattle.std.specs.Prelude.{◌≡◌, ℕ, ◌<◌, ◌==◌, ◌&&◌, Bool, true, false, List, [], ◌∷◌, length, get_or}
use Rattle.std.specs.List.{list_any}
use Rattle.omf_image.specs.declared.patch.Patch.{Patch}
use Rattle.omf_image.specs.inside.Patches.{patched_all, patch_start, is_relocated}
use Rattle.omf_image.specs.inside.Marks.{touches, touches_relocated}
use Rattle.omf_image.specs.inside.States.{State, Holds}

-- each byte is a copy of the one that was stored at its place
abbrev pub Copied : (contents places bytes : List ℕ) → Type 0
Copied contents places bytes = (k : ℕ) → k < length places → get_or bytes k 0 ≡ get_or contents (get_or places k 0) 0

-- a relocated word begins at a place
abbrev pub begins : (place : ℕ) → Patch → Bool
begins place patch = is_relocated patch && (place == patch_start patch)

-- of a byte patches of the data tell what those of the stored bytes tell of its place
abbrev pub Agree : (ℕ → Patch → Bool) → (places : List ℕ) → (earlier once : List Patch) → Type 0
Agree tells places earlier once =
    (k : ℕ) → k < length places → list_any (tells k) earlier ≡ list_any (tells (get_or places k 0)) once

-- the patches at all copies, and these patches once
pub record Twins (places bytes contents : List ℕ) (earlier once : List Patch) : Type 0 where
  pub copied : Copied (patched_all once contents) places (patched_all earlier bytes)
  pub touched : Agree touches places earlier once
  pub relocated : Agree touches_relocated places earlier once
  pub begun : Agree begins places earlier once
  pub inside : (k : ℕ) → list_any (begins k) earlier ≡ true → k < length places

-- a state of the stored bytes stands for data with patches
pub record IsStored (places bytes : List ℕ) (now : State) (earlier : List Patch) : Type 0 where
  pub contents : List ℕ
  pub base : State
  pub once : List Patch
  pub sized : length bytes ≡ length places
  pub ends : (k : ℕ) → k < length places → get_or places k 0 < length contents
  pub blank : (k : ℕ) → get_or base.words k false ≡ false
  pub holds : Holds 0 contents base now once
  pub twins : Twins places bytes contents earlier once

-- where a fix-up is added once: nowhere where it has no hit
abbrev pub once_at : (offset : ℕ) → (positions : List ℕ) → List ℕ
once_at offset [] = []
once_at offset (first ∷ others) = offset ∷ []
