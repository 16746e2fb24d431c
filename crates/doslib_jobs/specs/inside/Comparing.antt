-- How the code sees two images that differ.
use Rattle.std.specs.Prelude.{ℕ, List, ◌≡◌, ◌++◌, All, map, max}
use Rattle.std.specs.declared.option.Option.{Option}
use Rattle.std.specs.Io.KnownBytes.{Appends}
use Rattle.std.specs.List.{flat_map}
use Rattle.doslib_match.specs.declared.matching.Wanted.TheVariants.{Byte}
use Rattle.doslib_words.specs.Words.{texts}
use Rattle.doslib_jobs.specs.declared.comparing.Compared.{Compared}
use Rattle.doslib_jobs.specs.declared.outcome.Outcome.{Outcome}
use Rattle.doslib_jobs.specs.Comparing.{difference_line}
use Rattle.doslib_jobs.specs.Matching.{IsSearched, Searched, searched_status}
use Rattle.doslib_jobs.specs.Reading.{greatest}

-- that two images differ at a place is told
abbrev pub PrintsDifference : (first second : List ℕ) → (place : ℕ) → (old new : Option (List ℕ)) → Type 0
PrintsDifference first second place old new = Appends old new (difference_line first second place)

-- it is told, and which modules of the files have the byte there in the first image
pub record TellsDifference {A : Type 0} (told : List ℕ → Option (List ℕ)) (compared : Compared) (place : ℕ)
    (old new : Option (List ℕ)) (outcome : Outcome A) : Type 0 where
  pub files : List Searched
  pub these : map (λ s. s.path) files ≡ texts compared.files.now
  pub are : All (IsSearched (Byte place) told compared.first.now) files
  pub text : Appends old new (difference_line compared.first.now compared.second.now place
      ++ flat_map (λ s. s.text) files)
  pub faults : outcome.lines.items ≡ flat_map (λ s. s.faults) files
  pub greatest_is : outcome.status ≡ max (greatest (map searched_status files)) 1
