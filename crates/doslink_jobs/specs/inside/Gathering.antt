-- The rounds in which the files of a job are searched, as they are gathered.
use Rattle.std.specs.Prelude.{◌≡◌, ℕ, All, List, Vec, ◌++◌, map}
use Rattle.std.specs.Char.{to_ascii_lowercase}
use Rattle.std.specs.BTreeSet.{BTreeSet}
use Rattle.std.specs.declared.option.Option.{Option}
use Rattle.clap.specs.Words.{Text}
use Rattle.omf_place.specs.declared.names.Names.{Names}
use Rattle.doslink_link.specs.Linking.{bytes_of}
use Rattle.doslink_stock.specs.Files.{Held}
use Rattle.doslink_stock.specs.Search.{Takes, all_files}
use Rattle.doslink_stock.specs.Searched.{Searched}
use Rattle.doslink_telling.specs.inside.Tables.{IsSetOf}
use Rattle.doslink_words.specs.declared.job.Job.{Job}
use Rattle.doslink_jobs.specs.declared.gathering.DefaultLibrary.{DefaultLibrary}
use Rattle.doslink_jobs.specs.declared.gathering.Gathered.{Gathered}
use Rattle.doslink_passes.specs.Request.{names_of}
use Rattle.doslink_jobs.specs.Jobs.{AreFilesOf, AreRounds, IsAskedBy, IsNamedBy, library_stem}
use Rattle.doslink_jobs.specs.Refusals.{HasFaultyLibrary}

-- what of a library's name tells it from others: its stem in small letters
abbrev pub folded_stem : (name : Text) → Text
folded_stem name = map to_ascii_lowercase (library_stem name)

-- a set has this of each of these names
abbrev pub AreStemsOf : {A : Type 0} → (names : List Text) → BTreeSet (Vec ℕ A) → Type 0
AreStemsOf names stems = IsSetOf (map folded_stem names) stems

-- modules name each of these default libraries
abbrev pub AreNamed : {A : Type 0} → (modules : List Held) → List (DefaultLibrary A) → Type 0
AreNamed modules libraries = All (λ l. IsNamedBy modules l.name.now) libraries

-- and none of them is left out
abbrev pub AreAsked : {A : Type 0} → (left_out : List Text) → (modules : List Held) → List (DefaultLibrary A) → Type 0
AreAsked left_out modules libraries = All (λ l. IsAskedBy left_out modules l.name.now) libraries

-- modules that a link takes of these rounds ask for these
abbrev pub AreAskedBy : {A : Type 0} → (left_out : List Text) → Names → (rounds : List (List (List ℕ)))
    → List (DefaultLibrary A) → Type 0
AreAskedBy left_out names rounds libraries =
    (modules : List Held) × Takes names rounds modules × AreAsked left_out modules libraries

-- these rounds of files were searched
abbrev pub Holds : {A : Type 0} → Names → (rounds : List (List (List ℕ))) → Gathered A → Type 0
Holds names rounds gathered =
    Searched names rounds gathered.stock × (bytes_of gathered.bytes.items ≡ all_files rounds)

module _ (told : Text → Option (List ℕ)) (folders left_out : List Text) (names : Names)
    (before : List (List (List ℕ))) where
  -- rounds of default libraries were searched behind others
  abbrev pub AddsRounds : {A : Type 0} → Gathered A → Type 0
  AddsRounds gathered = (more : List (List (List ℕ))) × AreRounds told folders left_out names before more
      × Holds names (before ++ more) gathered

  -- a library of the last of them is at fault
  abbrev pub AddsFaulty : Type 0
  AddsFaulty = (more : List (List (List ℕ))) × AreRounds told folders left_out names before more
      × HasFaultyLibrary (before ++ more)

-- the files of a job were searched
abbrev pub IsGathered : {A : Type 0} → (told : Text → Option (List ℕ)) → (folders : List Text) → Job → Gathered A
    → Type 0
IsGathered told folders job gathered = (rounds : List (List (List ℕ))) × AreFilesOf told folders job rounds
    × Searched (names_of job.ignore_case) rounds gathered.stock

-- a library of them is at fault
abbrev pub IsFaultyJob : (told : Text → Option (List ℕ)) → (folders : List Text) → Job → Type 0
IsFaultyJob told folders job =
    (rounds : List (List (List ℕ))) × AreFilesOf told folders job rounds × HasFaultyLibrary rounds
