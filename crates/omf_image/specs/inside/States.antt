-- What is kept while data records are laid over an image.
use Rattle.std.specs.Prelude.{◌≡◌, ℕ, ◌+◌, ◌/◌, ◌<◌, ◌≤◌, Bool, true, false, List, [], ◌∷◌, map, set, length, get_or}
use Rattle.omf_image.specs.declared.patch.Patch.{Patch}
use Rattle.omf_image.specs.declared.patch.Patch.TheVariants.{Byte, Word, Relocated}
use Rattle.omf_image.specs.declared.work.Work.{Work}
use Rattle.omf_image.specs.inside.Patches.{patched_all, relocated_places}
use Rattle.omf_image.specs.inside.Pages.{IsLaid, MakesPages}
use Rattle.omf_image.specs.inside.Marks.{IsMarked}

-- an image and its pages; at which addresses a relocated word begins; the marks on the bytes of a data record
pub record State : Type 0 where
  pub image : List ℕ
  pub made : List Bool
  pub words : List Bool
  pub touched : List Bool
  pub relocated : List Bool

-- what the code keeps, as a state
abbrev pub state : {A : Type 0} → Work A → State
state work = record {
  image = work.pages.bytes;
  made = work.pages.made;
  words = work.words.items;
  touched = work.touched.items;
  relocated = work.relocated.items;
}

-- a patch of data that stands at start, as one of the image
abbrev pub at_start : (start : ℕ) → Patch → Patch
at_start start (Byte place value) = Byte (start + place) value
at_start start (Word place value) = Word (start + place) value
at_start start (Relocated place value) = Relocated (start + place) value

-- with the flags of these addresses set
abbrev pub begun : (addresses : List ℕ) → (flags : List Bool) → List Bool
begun [] flags = flags
begun (address ∷ addresses) flags = begun addresses (set flags address true)

-- the marked data record stands inside the image, in pages that were made
pub record IsRoom (start : ℕ) (now : State) : Type 0 where
  pub same : length now.relocated ≡ length now.touched
  pub inside : start + length now.touched ≤ length now.image
  pub words : length now.words ≡ length now.image
  pub small : length now.image ≤ 1048560
  pub made : (a : ℕ) → start ≤ a → a < start + length now.touched → get_or now.made (a / 4096) false ≡ true

-- from the state base to the state now, bytes were laid at start with patches added to them
pub record Holds (start : ℕ) (bytes : List ℕ) (base now : State) (patches : List Patch) : Type 0 where
  pub image : IsLaid (record { start = start; bytes = patched_all patches bytes }) base.image now.image
  pub made : MakesPages (record { start = start; bytes = bytes }) base.made now.made
  pub words : now.words ≡ begun (map (λ i. start + i) (relocated_places patches)) base.words
  pub marked : IsMarked now.touched now.relocated patches
  pub sized : length now.touched ≡ length bytes
