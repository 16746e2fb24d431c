-- What a run adds of the files whose modules are looked for.
use Rattle.std.specs.Prelude.{◌≡◌, ℕ, List, ◌++◌, All, map, max}
use Rattle.std.specs.declared.option.Option.{Option}
use Rattle.std.specs.Io.KnownBytes.{Appends}
use Rattle.std.specs.List.{flat_map}
use Rattle.byte_places.specs.declared.spans.Span.{Span}
use Rattle.omf_match.specs.Told.{left_lines}
use Rattle.doslib_match.specs.declared.matching.Wanted.{Wanted}
use Rattle.doslib_jobs.specs.declared.matching.Matched.{Matched}
use Rattle.doslib_jobs.specs.Matching.{IsSearched, Searched, searched_status}
use Rattle.doslib_jobs.specs.Reading.{greatest}

-- The file at a path was searched, and what is told of it was added.
pub record AddsSearched {A : Type 0} (wanted : Wanted) (told : List ℕ → Option (List ℕ)) (image path : List ℕ) (old new : Option (List ℕ))
    (before after : Matched A) : Type 0 where
  pub one : Searched
  pub here : one.path ≡ path
  pub is : IsSearched wanted told image one
  pub appended : Appends old new one.text
  pub spans : after.spans.items ≡ before.spans.items ++ one.spans
  pub lines : after.outcome.lines.items ≡ before.outcome.lines.items ++ one.faults
  pub greatest_is : after.outcome.status ≡ max before.outcome.status (searched_status one)

-- The files at these paths were searched, one for each, and what is told of them was added.
pub record Added {A : Type 0} (wanted : Wanted) (told : List ℕ → Option (List ℕ)) (image : List ℕ) (paths : List (List ℕ))
    (old new : Option (List ℕ)) (matched : Matched A) : Type 0 where
  pub files : List Searched
  pub these : map (λ s. s.path) files ≡ paths
  pub are : All (IsSearched wanted told image) files
  pub text : Appends old new (flat_map (λ s. s.text) files)
  pub spans : matched.spans.items ≡ flat_map (λ s. s.spans) files
  pub faults : matched.outcome.lines.items ≡ flat_map (λ s. s.faults) files
  pub greatest_is : matched.outcome.status ≡ greatest (map searched_status files)

-- the bytes of an image of this length that no span has are told of
abbrev pub PrintsLeft : List Span → (len : ℕ) → (old new : Option (List ℕ)) → Type 0
PrintsLeft spans len old new = Appends old new (left_lines spans len)
