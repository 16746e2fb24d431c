-- An image in pages of 4,096 bytes. A page that was not made is empty, and reads as zeros.
use Rattle.std.specs.Prelude.{◌≡◌, ℕ, ◌*◌, ◌≤◌, ◌⊎◌, ◌==◌, ◌||◌, false, get_or, cond, not, Bool, List, map, flat_map}
use Rattle.std.specs.Prelude.{take, replicate, length, All}
use Rattle.omf_image.specs.Located.{LocatedBytes, covers, in_page}
use Rattle.omf_image.specs.inside.Whole.{byte_of}

-- its bytes, and which pages were made
pub record Paged : Type 0 where
  pub bytes : List ℕ
  pub made : List Bool

-- what a page reads as
abbrev pub page_bytes : (page : List ℕ) → List ℕ
page_bytes page = cond (length page == 0) (replicate 4096 0) page

-- the bytes of an image of this size
unfoldable pub joined : (size : ℕ) → List (List ℕ) → List ℕ
joined size pages = take size (flat_map page_bytes pages)

-- which of the pages were made
unfoldable pub made_pages : List (List ℕ) → List Bool
made_pages pages = map (λ p. not (length p == 0)) pages

-- empty or whole
abbrev pub IsPage : (page : List ℕ) → Type 0
IsPage page = (length page ≡ 0) ⊎ (length page ≡ 4096)

-- pages enough for an image of this size
pub record IsPaged (size : ℕ) (pages : List (List ℕ)) : Type 0 where
  pub room : size ≤ 4096 * length pages
  pub small : size ≤ 1048560
  pub each : All IsPage pages

-- new is old with data laid over it
pub record IsLaid (datum : LocatedBytes) (old new : List ℕ) : Type 0 where
  pub sized : length new ≡ length old
  pub each : (a : ℕ) → get_or new a 0 ≡ cond (covers a datum) (byte_of a datum) (get_or old a 0)

-- the pages into which data fell are made, and no other
abbrev pub MakesPages : LocatedBytes → (old new : List Bool) → Type 0
MakesPages datum old new = (k : ℕ) → get_or new k false ≡ (in_page k datum || get_or old k false)

-- zeros, and no page made
pub record IsBlank (size : ℕ) (paged : Paged) : Type 0 where
  pub bytes : paged.bytes ≡ replicate size 0
  pub made : (k : ℕ) → get_or paged.made k false ≡ false
