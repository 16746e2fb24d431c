-- What words ask for: a job, or none, as where they ask for a text alone. `told` are the bytes of files by their paths,
-- where the world tells them.
use Rattle.std.specs.Prelude.{◌≡◌, ◌⊎◌, ◌||◌, ℕ, Bool, List, [], ◌∷◌, codes, true, if◌then◌else◌}
use Rattle.std.specs.Prelude.{Ok, None, Some, MatchOption}
use Rattle.std.specs.declared.option.Option.{Option}
use Rattle.std.specs.Option.{option_map}
use Rattle.std.specs.Str.{bytes_eq}
use Rattle.clap.specs.Words.{Text}
use Rattle.doslink_words.specs.declared.job.Directives.{Directives}
use Rattle.doslink_words.specs.declared.job.Job.{Job}
use Rattle.doslink_words.specs.Directives.{Means, meaning}
use Rattle.doslink_words.specs.Tokens.{words}
use Rattle.doslink_words.specs.Responses.{asks_text, response_words}
use Rattle.doslink_words.specs.Words.{AreTaken, IsJobFor}
use Rattle.makefile_words.specs.Jobs as jobs
use Rattle.makefile_words.specs.Lines as lines
use Rattle.makefile_words.specs.Link.{is_short}
use Rattle.makefile_words.specs.declared.job.MakefileJob.{MakefileJob}
use Rattle.makefile_words.specs.declared.tokens.Language.{Language as Linker}
use Rattle.makefile_words.specs.declared.tokens.Language.TheVariants as linkers
use Rattle.doslink_asked.specs.declared.asked.Asked.{Asked}
use Rattle.doslink_asked.specs.declared.asked.Asked.TheVariants as asked
use Rattle.doslink_asked.specs.declared.languages.Language.{Language}
use Rattle.doslink_asked.specs.declared.languages.Language.TheVariants as language
use Rattle.doslink_asked.specs.Languages.{spoken}
use Rattle.doslink_asked.specs.Lines.{AreDefined, IsSpoken, IsWhole, are_followed, line_of}
use Rattle.doslink_asked.specs.Named.{IsNamed}
use Rattle.doslink_asked.specs.Responses.{IsTextIn, response_path}
use Rattle.doslink_asked.specs.Spoken.{IsTextOf, SourceLine}

-- the job that is asked for, where it isn't a text
abbrev pub job_of : Asked → Option Job
job_of (asked.Job job) = Some job
job_of (asked.Text text) = None

-- ---- options and files

-- words ask for no job, as where they ask for help, and as directives where they ask for a text alone
abbrev pub AskForNone : (words : List Text) → Type 0
AskForNone words = (AreTaken words → ⊥) ⊎ (asks_text words ≡ true)

-- words that are options and files ask for this
abbrev pub OptionsAsk : (words : List Text) → (job : Option Job) → Type 0
OptionsAsk words job = MatchOption job (AskForNone words) (IsJobFor words)

-- the words of a text do
abbrev pub TextAsks : (text : Text) → (job : Option Job) → Type 0
TextAsks text job = (list : List Text) × (words text ≡ Some list) × OptionsAsk list job

-- the path of a response file that is the only word
abbrev pub only_response : List Text → Option Text
only_response [] = None
only_response (word ∷ []) = response_path word
only_response _ = None

-- ---- a line of LINK or TLINK

-- whether a word asks a linker that takes a line for help: `/?`, or `/HELP`, which may be shortened to `/HE`
abbrev pub asks_line_help : Text → Bool
asks_line_help word = bytes_eq word (codes "/?") || is_short word (codes "/HELP") 3

-- such a word alone is the same as `--help`
abbrev pub line_asked : List Text → List Text
line_asked (word ∷ []) = if asks_line_help word then codes "--help" ∷ [] else word ∷ []
line_asked words = words

module _ (told : Text → Option (List ℕ)) where
  -- the words of a response file ask for this
  abbrev pub FileAsks : (path : Text) → (job : Option Job) → Type 0
  FileAsks path job = (text : Text) × IsTextIn (told path) text × TextAsks text job

  -- words do that are options and files, or one response file of these
  abbrev pub CommandAsks : (words : List Text) → (job : Option Job) → Type 0
  CommandAsks list job = MatchOption (only_response list) (OptionsAsk list job) (λ path. FileAsks path job)

  -- the directives that words give ask for this job, with the name of its program whole
  abbrev pub AreDirected : (words : List Text) → Job → Type 0
  AreDirected list job =
      (spoken : List SourceLine) × (text : Text) × IsTextOf told list spoken text
      × (directives : Directives) × Means (Ok directives) (meaning text) × IsNamed directives.job job

  -- words that are directives ask for this, or for a text
  abbrev pub DirectivesAsk : (words : List Text) → (job : Option Job) → Type 0
  DirectivesAsk list job = MatchOption job (asks_text list ≡ true) (AreDirected (response_words list))

  -- what is made of a line asks for this job, with the names of its program and its map whole: its options can be
  -- followed, and its definitions need not be
  abbrev pub IsMade : MakefileJob → Job → Type 0
  IsMade made job = (are_followed made.settings ≡ true)
      × AreDefined told (option_map (λ name. name.now) made.definitions) × IsWhole made.job job

  -- a line of LINK or TLINK does, with what stands in front of it
  abbrev pub IsLined : Linker → (front text : Text) → Job → Type 0
  IsLined linker front text job =
      (made : MakefileJob) × jobs.Means linker (Ok made) (lines.meaning linker front text) × IsMade made job

  module _ (IsFront : Linker → (front : Text) → Type 0) where
    -- a line as it is typed does, with what stands in front of it and what its response files say
    abbrev pub IsTyped : Linker → (text : Text) → Job → Type 0
    IsTyped linker text job =
        (front : Text) × IsFront linker front × (rounds : ℕ) × (line : Text) × IsSpoken told linker rounds text line
        × IsLined linker front line job

    -- words that are a line ask for this, or for a text
    abbrev pub LineAsks : Linker → (words : List Text) → (job : Option Job) → Type 0
    LineAsks linker list job =
        MatchOption job (asks_text (line_asked list) ≡ true) (IsTyped linker (line_of list))

    -- words do, which are read so
    abbrev pub AskIn : Language → (words : List Text) → (job : Option Job) → Type 0
    AskIn language.Words list job = CommandAsks list job
    AskIn language.Directives list job = DirectivesAsk list job
    AskIn language.Link list job = LineAsks linkers.Link list job
    AskIn language.Tlink list job = LineAsks linkers.Tlink list job

    -- words do, where `--as NAME` may stand in front of them
    abbrev pub Ask : Language → (words : List Text) → (job : Option Job) → Type 0
    Ask language list job = AskIn (spoken language list).0 (spoken language list).1 job
