-- A line of LINK or TLINK: its text, with what response files say in the places of their words, and its job, whose
-- names are whole. `told` are the bytes of files by their paths, where the world tells them.
use Rattle.std.specs.Prelude.{◌≡◌, ◌≢◌, ◌⊎◌, ◌==◌, ◌&&◌, ◌||◌, ℕ, zero, suc, Bool, not, List, [], ◌∷◌, ◌++◌, codes}
use Rattle.std.specs.Prelude.{None, Some, MatchOption, Ok, if◌then◌else◌}
use Rattle.std.specs.declared.option.Option.{Option}
use Rattle.std.specs.Char.{is_ascii_whitespace}
use Rattle.std.specs.List.{flat_map, list_any}
use Rattle.std.specs.Option.{option_map, option_map_or}
use Rattle.std.specs.Path.{rsplit_once}
use Rattle.std.specs.Str.{bytes_eq}
use Rattle.clap.specs.Words.{Text}
use Rattle.doslink_files.specs.Paths.{has_extension}
use Rattle.doslink_words.specs.Said.{SaidMap, At, Beside, map_of}
use Rattle.doslink_words.specs.declared.job.Job.{Job}
use Rattle.makefile_words.specs.Definitions as definitions
use Rattle.makefile_words.specs.Tokens.{PlacedPiece, Piece, Word, Quoted, Unclosed, Blank, Plus, Comma, Semicolon}
use Rattle.makefile_words.specs.Tokens.{LineEnd}
use Rattle.makefile_words.specs.Tokens.{text_of, tokens}
use Rattle.makefile_words.specs.declared.line.IdleAt.{IdleAt}
use Rattle.makefile_words.specs.declared.settings.Settings.{Settings}
use Rattle.makefile_words.specs.declared.tokens.Language.{Language}
use Rattle.doslink_asked.specs.Paths.{extension_for, first_file, is_output, path_after, with_extension}
use Rattle.doslink_asked.specs.Responses.{IsTextIn, response_path}

-- ---- its text

-- whether a byte is a quote, or a mark of a line: `+`, a comma or `;`
abbrev pub is_mark : ℕ → Bool
is_mark byte = byte == 34 || (byte == 43 || (byte == 44 || byte == 59))

-- whether a word is a name whose quotes are gone: it has white space, and no mark, with which it is a part of a line
abbrev pub is_bare : Text → Bool
is_bare word = list_any is_ascii_whitespace word && not (list_any is_mark word)

-- a word, in quotes again where these are gone
abbrev pub line_word : Text → Text
line_word word = if is_bare word then 34 ∷ (word ++ 34 ∷ []) else word

-- the line of words: a blank behind each
abbrev pub line_of : List Text → Text
line_of words = flat_map (λ word. line_word word ++ 32 ∷ []) words

-- the path of the response file that a token stands for: what is behind `@` at the front of a word
abbrev pub response_of : Piece → Option Text
response_of (Word word) = response_path word
response_of (Quoted text) = None
response_of Unclosed = None
response_of Blank = None
response_of Plus = None
response_of Comma = None
response_of Semicolon = None
response_of LineEnd = None

-- a token as it is written
abbrev pub spelled : Piece → Text
spelled (Word word) = word
spelled (Quoted text) = 34 ∷ (text ++ 34 ∷ [])
spelled Unclosed = text_of Unclosed
spelled Blank = text_of Blank
spelled Plus = text_of Plus
spelled Comma = text_of Comma
spelled Semicolon = text_of Semicolon
spelled LineEnd = text_of LineEnd

-- this is a text without the line feed at its end, where it has one
abbrev pub IsWithoutLineEnd : (text part : Text) → Type 0
IsWithoutLineEnd text part = (text ≡ part ++ 10 ∷ []) ⊎ (((front : Text) → text ≢ front ++ 10 ∷ []) × (part ≡ text))

-- this is what a response file says: its text, without the end of its last line
abbrev pub IsSaidIn : (told : Option (List ℕ)) → (part : Text) → Type 0
IsSaidIn told part = (text : Text) × IsTextIn told text × IsWithoutLineEnd text part

-- this stands for a token: what the response file says that it names, and else the token as it is written
abbrev pub StandsFor : (told : Text → Option (List ℕ)) → Piece → (part : Text) → Type 0
StandsFor told piece part =
    MatchOption (response_of piece) (part ≡ spelled piece) (λ path. IsSaidIn (told path) part)

-- this stands for some tokens
abbrev pub StandsForAll : (told : Text → Option (List ℕ)) → List PlacedPiece → (text : Text) → Type 0
StandsForAll told [] text = text ≡ []
StandsForAll told (token ∷ tokens) text =
    (part rest : Text) × StandsFor told token.piece part × StandsForAll told tokens rest × (text ≡ part ++ rest)

-- this is a text in so many rounds, in each of which its response files are put in the places of their words
abbrev pub IsSpoken : (told : Text → Option (List ℕ)) → Language → (rounds : ℕ) → (text line : Text) → Type 0
IsSpoken told language zero text line = line ≡ text
IsSpoken told language (suc rounds) text line =
    (before : Text) × IsSpoken told language rounds text before × StandsForAll told (tokens language before) line

-- ---- its job

-- whether what options say can be done: no more is in the file than data
abbrev pub are_followed : Settings → Bool
are_followed settings = not settings.writes_all

-- a path with an extension where it has none
abbrev pub with_default : (path extension : Text) → Text
with_default path extension = if has_extension path then path else path ++ extension

-- a file of definitions says nothing that would have to be followed: that of a name, with `.DEF` where it has no
-- extension
abbrev pub IsDefinedBy : (told : Text → Option (List ℕ)) → (name : Text) → Type 0
IsDefinedBy told name =
    (text : Text) × IsTextIn (told (with_default name (codes ".DEF"))) text
    × (warnings : List IdleAt) × (definitions.meaning text ≡ Ok warnings)

-- so does the one that a line names, where it names one
abbrev pub AreDefined : (told : Text → Option (List ℕ)) → (name : Option Text) → Type 0
AreDefined told name = MatchOption name (Unit {0}) (IsDefinedBy told)

-- what stands behind the last of a byte, or all where there is none
abbrev pub behind_last : (byte : ℕ) → Text → Text
behind_last byte path = option_map_or (λ parts. parts.1) (rsplit_once byte path) path

-- the name of a file without its folders and its drive
abbrev pub base_name : Text → Text
base_name path = behind_last 58 (behind_last 92 (behind_last 47 path))

-- a path that is said, with an extension where it has none; in a folder alone, as `OBJ\`, stands this name
abbrev pub whole_path : (path name extension : Text) → Text
whole_path path name extension =
    if bytes_eq (base_name path) [] then path ++ name else with_default path extension

-- the name of the first object, with the extension of the program's form
abbrev pub default_out : Job → Text
default_out job = path_after (option_map base_name (first_file job.inputs.items)) (extension_for job.form)

-- the program's path: the one that is said, or the first object's name, in this folder
abbrev pub line_out : Job → Text
line_out job =
    option_map_or (λ out. whole_path out.now (default_out job) (extension_for job.form)) job.out (default_out job)

-- the path of a map that is said, and is a file; in a folder alone it has the program's name
abbrev pub whole_map : (path out : Text) → Text
whole_map path out = whole_path path (with_extension (base_name out) (codes ".MAP")) (codes ".MAP")

-- the map's path, which stays where it is standard output
abbrev pub line_map : (out : Text) → SaidMap → SaidMap
line_map out Beside = Beside
line_map out (At path) = At (if is_output path then path else whole_map path out)

-- a job with the names of its program and its map whole
pub record IsWhole (job whole : Job) : Type 0 where
  pub out : option_map (λ out. out.now) whole.out ≡ Some (line_out job)
  pub map : option_map map_of whole.map ≡ option_map (line_map (line_out job)) (option_map map_of job.map)
  pub others : whole ≡ record job { out = whole.out; map = whole.map }
