-- What `compare` comes to: the first byte at which the images of two programs differ, and which modules of files have it. An
-- answer is the lines of the faults, and the status.
use Rattle.std.specs.Prelude.{◌≡◌, ◌≢◌, ◌⊎◌, ℕ, List, [], ◌∷◌, ◌++◌, All, map, max, codes, slice_get, take}
use Rattle.std.specs.declared.option.Option.{Option}
use Rattle.std.specs.Io.KnownBytes.{Appends}
use Rattle.std.specs.List.{concat, flat_map}
use Rattle.std.specs.Option.{option_map_or}
use Rattle.mz.specs.File.{MzFile}
use Rattle.omf_text.specs.Printing.{hexadecimal}
use Rattle.doslib_match.specs.declared.matching.Wanted.TheVariants.{Byte}
use Rattle.doslib_jobs.specs.Matching.{IsSearched, Searched, searched_status}
use Rattle.doslib_jobs.specs.Program.{HasNoProgram, HasProgram}
use Rattle.doslib_jobs.specs.Reading.{greatest}

-- the place of the first byte at which two images differ: one of them may end there
abbrev pub IsFirstDifference : (first second : List ℕ) → (place : ℕ) → Type 0
IsFirstDifference first second place =
    (take place first ≡ take place second) × (slice_get first place ≢ slice_get second place)

-- the byte at a place of an image, or two dashes behind its end
abbrev pub byte_text : (image : List ℕ) → (place : ℕ) → List ℕ
byte_text image place = option_map_or (λ b. codes " " ++ hexadecimal 2 b) (slice_get image place) (codes " --")

-- the line that says where two images differ
abbrev pub difference_line : (first second : List ℕ) → (place : ℕ) → List ℕ
difference_line first second place =
    concat (codes "differ " ∷ hexadecimal 8 place ∷ byte_text first place ∷ byte_text second place ∷ codes "\n" ∷ [])

-- The images differ first at this place: that was told, and then, of the files at these paths, one for each, which of
-- their modules have the byte there in the first image; these are the lines of the files' faults, and the status is 1, or
-- the greatest of theirs.
pub record DiffersAt (told : List ℕ → Option (List ℕ)) (first second : List ℕ) (paths : List (List ℕ))
    (old new : Option (List ℕ)) (answer : List ℕ × ℕ) (place : ℕ) : Type 0 where
  pub is_first : IsFirstDifference first second place
  pub files : List Searched
  pub these : map (λ s. s.path) files ≡ paths
  pub are : All (IsSearched (Byte place) told first) files
  pub text : Appends old new (difference_line first second place ++ flat_map (λ s. s.text) files)
  pub faults : answer.0 ≡ flat_map (λ s. s.faults) files
  pub greatest_is : answer.1 ≡ max (greatest (map searched_status files)) 1

-- it was told that they are the same
abbrev pub TellsSame : (old new : Option (List ℕ)) → List ℕ × ℕ → Type 0
TellsSame old new answer = Appends old new (codes "no difference\n") × (answer.0 ≡ []) × (answer.1 ≡ 0)

-- what two images come to
abbrev pub Differs : (told : List ℕ → Option (List ℕ)) → (first second : List ℕ) → (paths : List (List ℕ))
    → (old new : Option (List ℕ)) → List ℕ × ℕ → Type 0
Differs told first second paths old new answer =
    ((first ≡ second) × TellsSame old new answer)
    ⊎ ((place : ℕ) × DiffersAt told first second paths old new answer place)

-- the same of a program and the file at a path, which is read behind the program
abbrev pub DiffersFrom : (told : List ℕ → Option (List ℕ)) → MzFile → (other : List ℕ) → (paths : List (List ℕ))
    → (old new : Option (List ℕ)) → List ℕ × ℕ → Type 0
DiffersFrom told first other paths old new answer =
    (HasNoProgram told other answer × (new ≡ old))
    ⊎ ((second : MzFile) × HasProgram told other second
    × Differs told first.image second.image paths old new answer)

-- what the job comes to
abbrev pub Compares : (told : List ℕ → Option (List ℕ)) → (path other : List ℕ) → (paths : List (List ℕ))
    → (old new : Option (List ℕ)) → List ℕ × ℕ → Type 0
Compares told path other paths old new answer =
    (HasNoProgram told path answer × (new ≡ old))
    ⊎ ((first : MzFile) × HasProgram told path first × DiffersFrom told first other paths old new answer)
