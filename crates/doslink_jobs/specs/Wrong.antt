-- Why the words of a job are wrong, or its names: one of these holds where a run of it ends with status 2. Where the
-- world tells them, `told` are the bytes of files by their paths, and `looks` is what stands at each path, none where
-- nothing does.
use Rattle.std.specs.Prelude.{◌≡◌, ◌≢◌, ◌⊎◌, ◌&&◌, ◌||◌, ℕ, nat_lt, Bool, true, false, List, [], length, codes, IfSome}
use Rattle.std.specs.Prelude.{Some, is_none}
use Rattle.std.specs.Option.{option_map_or}
use Rattle.std.specs.declared.option.Option.{Option}
use Rattle.clap.specs.Words.{Text}
use Rattle.omf_files.specs.declared.world.FileId.{FileId}
use Rattle.omf_files.specs.declared.world.Looked.{Looked}
use Rattle.doslink_files.specs.Standing.{BeginsAsInput, is_one_of, is_one_place, stands_regular}
use Rattle.doslink_words.specs.declared.job.Job.{Job}
use Rattle.doslink_asked.specs.Paths.{extension_of, is_other_form, is_output}
use Rattle.doslink_jobs.specs.Jobs.{EndsWith, IsDone}
use Rattle.doslink_jobs.specs.Places.{is_map_output, looked_path, map_path, out_path}
use Rattle.doslink_jobs.specs.Refusals.{IsRefusedJob}

-- ---- what a job names

-- no file is named to be linked
abbrev pub NamesNothing : Job → Type 0
NamesNothing job = job.inputs.items ≡ []

-- ---- the folders that it searches

-- more folders than are searched: 64 at most of each kind
abbrev pub are_too_many : {X : Type 0} → List X → Bool
are_too_many folders = nat_lt 64 (length folders)

-- a job has too many folders of libraries or of objects, or the environment has
abbrev pub searches_too_many : (folders : List Text) → Job → Bool
searches_too_many folders job =
    are_too_many job.folders.items || are_too_many job.object_folders.items || are_too_many folders

-- ---- where it writes

-- the program is given a name with the extension of another form, and no form is said
abbrev pub asks_other_form : Job → Bool
asks_other_form job =
    is_none job.form && option_map_or (λ out. is_other_form (extension_of out.now)) job.out false

-- what is linked is to be told on standard output, and the program or its map is to be written there
abbrev pub mixes_output : Job → Bool
mixes_output job =
    job.verbose && (option_map_or (λ out. is_output out.now) job.out false || option_map_or is_map_output job.map false)

-- something is named to be linked, no such program, one thing at most for standard output, and no more folders than are
-- searched, where these are the environment's
abbrev pub IsNamedWell : (folders : List Text) → Job → Type 0
IsNamedWell folders job = (job.inputs.items ≢ []) × (asks_other_form job ≡ false) × (mixes_output job ≡ false)
    × (searches_too_many folders job ≡ false)

-- ---- where it would be written

-- what is written to two paths would be one file
abbrev pub AreOne : (looks : Option (Text → Option Looked)) → (one other : Text) → Type 0
AreOne looks one other = IfSome looks (λ look. is_one_place look (looked_path one) (looked_path other) ≡ true)

-- it would be two
abbrev pub AreTwo : (looks : Option (Text → Option Looked)) → (one other : Text) → Type 0
AreTwo looks one other = IfSome looks (λ look. is_one_place look (looked_path one) (looked_path other) ≡ false)

-- the list of what is linked, on standard output, would be one file with a program or its map at these paths
abbrev pub IsListOne : (looks : Option (Text → Option Looked)) → (out : Text) → (map : Option Text) → Type 0
IsListOne looks out map =
    AreOne looks out (codes "-") ⊎ ((path : Text) × (map ≡ Some path) × AreOne looks path (codes "-"))

module _ (told : Text → Option (List ℕ)) (looks : Option (Text → Option Looked)) where
  -- what is written to the path would stand in the place of one of the files that were read, or of a regular file that
  -- begins as a module or a library
  abbrev pub IsOver : (is_read : FileId → Bool) → (path : Text) → Type 0
  IsOver is_read path =
      IfSome looks (λ look. is_one_of look (looked_path path) is_read ≡ true)
      ⊎ (IfSome looks (λ look. stands_regular look (looked_path path) ≡ true)
      × IfSome (told (looked_path path)) BeginsAsInput)

  -- so would a map, or it would be one file with the program
  abbrev pub IsMapOver : (is_read : FileId → Bool) → (out map : Text) → Type 0
  IsMapOver is_read out map = IsOver is_read map ⊎ AreOne looks map out

  -- so would a program, or its map
  abbrev pub FilesOver : (is_read : FileId → Bool) → (out : Text) → (map : Option Text) → Type 0
  FilesOver is_read out map =
      IsOver is_read out ⊎ ((path : Text) × (map ≡ Some path) × IsMapOver is_read out path)

  -- so would the list of what is linked, on standard output, or it would be one file with one of them
  abbrev pub IsListOver : (is_read : FileId → Bool) → (out : Text) → (map : Option Text) → Type 0
  IsListOver is_read out map =
      IsOver is_read (codes "-") ⊎ IsListOne looks out map

  -- one of them holds of a program and its map at these paths, and of the list where it is asked for
  abbrev pub WritesOver : (is_read : FileId → Bool) → (lists : Bool) → (out : Text) → (map : Option Text) → Type 0
  WritesOver is_read lists out map =
      FilesOver is_read out map ⊎ ((lists ≡ true) × IsListOver is_read out map)

  -- Nothing is named to be linked, the program is given the extension of a form that isn't said, standard output is to
  -- hold two things, more folders are named than are searched, or what would be written would stand in the place of
  -- something else. Which files are those that were read isn't said: where one of them would be written over, some
  -- regular file stands there.
  abbrev pub IsWrongJob : (folders : List Text) → Job → Type 0
  IsWrongJob folders job =
      NamesNothing job ⊎ ((asks_other_form job ≡ true) ⊎ ((mixes_output job ≡ true)
      ⊎ ((searches_too_many folders job ≡ true) ⊎ ((is_read : FileId → Bool)
      × WritesOver is_read job.verbose (out_path job) (map_path job)))))

-- a program and its map at these paths would be two files
abbrev pub FilesApart : (looks : Option (Text → Option Looked)) → (out : Text) → (map : Option Text) → Type 0
FilesApart looks out map = IfSome map (λ path. AreTwo looks path out)

-- the list of what is linked, on standard output, would be another file than each of them
abbrev pub IsListApart : (looks : Option (Text → Option Looked)) → (out : Text) → (map : Option Text) → Type 0
IsListApart looks out map = AreTwo looks out (codes "-") × IfSome map (λ path. AreTwo looks path (codes "-"))

-- both hold, the second where the list is asked for
abbrev pub AreApart : (looks : Option (Text → Option Looked)) → (lists : Bool) → (out : Text) → (map : Option Text)
    → Type 0
AreApart looks lists out map = FilesApart looks out map × (lists ≡ true → IsListApart looks out map)

-- ---- how a run ends

-- A run of a job ends with status 0 only where it was done, with its program, its map and the list in files of their
-- own, with 1 only where it was refused, and with both only where its names are well;
-- with 2 only where its words or names are wrong.
abbrev pub EndsJob : (A : Type 0) → (told : Text → Option (List ℕ)) → (looks : Option (Text → Option Looked))
    → (Writes : (path bytes : List ℕ) → Type 0) → (folders : List Text) → Job → (tells : List ℕ → Type 0)
    → (status : ℕ) → Type 0
EndsJob A told looks Writes folders job =
    EndsWith (IsNamedWell folders job × AreApart looks job.verbose (out_path job) (map_path job)
    × IsDone A told Writes folders job)
    (IsNamedWell folders job × IsRefusedJob A told folders job) (IsWrongJob told looks folders job)
