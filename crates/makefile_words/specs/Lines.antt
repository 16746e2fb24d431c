-- What a line means: `objects, program, map, libraries, definitions;`, with options anywhere.
use Rattle.std.specs.Prelude.{ℕ, ◌+◌, ◌-◌, ◌==◌, ◌&&◌, ◌||◌, Bool, true, false, nat_le, nat_lt, List, [], ◌∷◌, ◌++◌}
use Rattle.std.specs.Prelude.{length, take, codes, Option, Some, None, Result, Ok, Err, if◌then◌else◌, is_some, slice_index, unwrap_or}
use Rattle.std.specs.Option.{option_map_or, option_or}
use Rattle.std.specs.List.{before_first, after_first, position_or_len}
use Rattle.std.specs.Path.{rsplit_once}
use Rattle.clap.specs.Lexer.{strip_byte}
use Rattle.clap.specs.Words.{Text}
use Rattle.doslink_words.specs.Directives.{and_then}
use Rattle.doslink_words.specs.Keywords.{is_keyword}
use Rattle.doslink_words.specs.Said.{SaidInput, File, Library}
use Rattle.doslink_words.specs.declared.job.Form.TheVariants.{Exe}
use Rattle.makefile_words.specs.Cut.{SaidCut, cut, has, option_fault, option_named, options_in}
use Rattle.makefile_words.specs.Link.{is_colon}
use Rattle.makefile_words.specs.Parts.{parts}
use Rattle.makefile_words.specs.Tokens.{PlacedPiece, Piece, Word, Quoted, Unclosed, Blank, Plus, Comma, Semicolon, LineEnd}
use Rattle.makefile_words.specs.Tokens.{is_quote, text_of, tokens, tokens_ending}
use Rattle.makefile_words.specs.declared.faults.FaultKind.{FaultKind}
use Rattle.makefile_words.specs.declared.faults.FaultKind.TheVariants as fault
use Rattle.makefile_words.specs.declared.line.Field.{Field}
use Rattle.makefile_words.specs.declared.line.Field.TheVariants.{Objects, Program, MapFile, Libraries, Definitions, Ended}
use Rattle.makefile_words.specs.declared.line.IdleAt.{IdleAt}
use Rattle.makefile_words.specs.declared.line.Part.{Part}
use Rattle.makefile_words.specs.declared.line.Part.TheVariants.{Front, Behind}
use Rattle.makefile_words.specs.declared.settings.Ordering.{Ordering}
use Rattle.makefile_words.specs.declared.settings.Ordering.TheVariants.{Dosseg, Meeting, WithoutNulls}
use Rattle.makefile_words.specs.declared.settings.Setting.{Setting}
use Rattle.makefile_words.specs.declared.settings.Setting.TheVariants as setting
use Rattle.makefile_words.specs.declared.settings.Settings.{Settings}
use Rattle.makefile_words.specs.declared.tokens.Language.{Language}
use Rattle.makefile_words.specs.declared.tokens.Language.TheVariants.{Tlink, Link}

-- what is said so far: names by their fields, options, the field that comes next, and whether `+` stood last, so that
-- the end of a line ends no field
pub record SaidLine : Type 0 where
  pub inputs : List SaidInput
  pub out : Option Text
  pub map : Option Text
  pub definitions : Option Text
  pub folders : List Text
  pub object_folders : List Text
  pub left_out : List Text
  pub warnings : List IdleAt
  pub settings : Settings
  pub field : Field
  pub continued : Bool

-- whether a map is made without a word of it: by TLINK
abbrev pub makes_map : Language → Bool
makes_map Tlink = true
makes_map Link = false

-- what no option asks for
abbrev pub no_settings : Language → Settings
no_settings language = record {
  case_counts = false;
  no_defaults = false;
  no_map = false;
  makes_map = makes_map language;
  publics = false;
  line_numbers = false;
  detailed = false;
  writes_all = false;
  verbose = false;
  form = Exe;
  order = Meeting;
  stack = None;
  most_extra = None;
}

-- what no word says
abbrev pub nothing_said : Language → SaidLine
nothing_said language = record {
  inputs = [];
  out = None;
  map = None;
  definitions = None;
  folders = [];
  object_folders = [];
  left_out = [];
  warnings = [];
  settings = no_settings language;
  field = Objects;
  continued = false;
}

-- ---- options

-- the order behind an option that says one: /NONULLSDOSSEG holds, whatever stands behind it
abbrev pub later_order : (had said : Ordering) → Ordering
later_order WithoutNulls said = WithoutNulls
later_order Meeting said = said
later_order Dosseg said = said

-- the settings behind an option that says one of them
abbrev pub changed : Setting → Settings → Settings
changed (setting.Case on) s = record s { case_counts = on }
changed (setting.NoDefaults on) s = record s { no_defaults = on }
changed (setting.NoMap on) s = record s { no_map = on }
changed (setting.Publics on) s = record s { publics = on }
changed (setting.LineNumbers on) s = record s { line_numbers = on }
changed (setting.Detailed on) s = record s { detailed = on }
changed (setting.WritesAll on) s = record s { writes_all = on }
changed setting.Verbose s = record s { verbose = true }
changed (setting.Form form) s = record s { form = form }
changed (setting.Order order) s = record s { order = later_order s.order order }
changed (setting.Stack bytes) s = record s { stack = Some bytes }
changed (setting.MostExtra paragraphs) s = record s { most_extra = Some paragraphs }
changed setting.Folders s = s
changed setting.ObjectFolders s = s
changed setting.LeavesOut s = s
changed setting.Silent s = s
changed (setting.Warned idle) s = s
changed (setting.Refused kind) s = s

-- the value of `LFOLDERS`, and of `jFOLDERS`: what stands behind the letter
abbrev pub folders_text : Text → Text
folders_text option = unwrap_or (option_or (strip_byte 76 option) (strip_byte 106 option)) option

-- the folders that are such a value: `;` parts them, but for one between quotes
abbrev pub folders_in : Text → List Text
folders_in option = parts 59 (folders_text option)

-- the name of a folder: all of it where it has no quote, and else what stands between its two quotes, where nothing
-- stands in front of these or behind them
abbrev pub quoted_name : (front quoted : Text) → Option Text
quoted_name front quoted =
    if has 34 quoted && (length front == 0 && length (after_first is_quote quoted) == 0)
    then Some (before_first is_quote quoted) else None

abbrev pub folder_name : Text → Option Text
folder_name folder =
    if has 34 folder then quoted_name (before_first is_quote folder) (after_first is_quote folder) else Some folder

-- folders, and behind them those of these names
abbrev pub with_folders : List Text → List Text → Result (List Text) FaultKind
with_folders had [] = Ok had
with_folders had (folder ∷ more) =
    option_map_or (λ name. with_folders (had ++ (name ∷ [])) more) (folder_name folder) (Err fault.PartlyQuoted)

-- the value of `NODEFAULTLIBRARYSEARCH:LIB`
abbrev pub library_text : Text → Text
library_text option =
    if nat_lt (position_or_len is_colon option) (length option) then after_first is_colon option else option

-- what an option says, where it asks for this
abbrev pub setting_meaning : (place : ℕ) → Setting → (option : Text) → SaidLine → Result SaidLine FaultKind
setting_meaning place setting.Folders option said =
    and_then (with_folders said.folders (folders_in option)) (λ folders. Ok (record said { folders = folders }))
setting_meaning place setting.ObjectFolders option said =
    and_then (with_folders said.object_folders (folders_in option))
    (λ folders. Ok (record said { object_folders = folders }))
setting_meaning place setting.LeavesOut option said =
    Ok (record said { left_out = said.left_out ++ (library_text option ∷ []) })
setting_meaning place (setting.Warned idle) option said =
    Ok (record said { warnings = said.warnings ++ (record { place = place; idle = idle } ∷ []) })
setting_meaning place (setting.Refused kind) option said = Err kind
setting_meaning place what option said = Ok (record said { settings = changed what said.settings })

-- what an option says
abbrev pub option_meaning : (place : ℕ) → Language → Text → SaidLine → Result SaidLine FaultKind
option_meaning place language option said =
    option_map_or (λ what. setting_meaning place what option said) (option_named language option)
    (Err (option_fault language option))

-- what options say, one behind the other
abbrev pub with_options : (place : ℕ) → Language → List Text → SaidLine → Result SaidLine FaultKind
with_options place language [] said = Ok said
with_options place language (option ∷ more) said =
    and_then (option_meaning place language option said) (with_options place language more)

-- what the options behind a name say
abbrev pub options_meaning : (place : ℕ) → Language → Option Text → SaidLine → Result SaidLine FaultKind
options_meaning place language None said = Ok said
options_meaning place language (Some text) said = with_options place language (options_in language text) said

-- ---- names

-- whether a byte is the dot in front of an extension
abbrev pub is_dot : ℕ → Bool
is_dot byte = byte == 46

-- what stands behind the last of a byte, or all where there is none
abbrev pub behind_last : (byte : ℕ) → Text → Text
behind_last byte name = option_map_or (λ parts. parts.1) (rsplit_once byte name) name

-- a name without the colon at its end
abbrev pub without_colon : Text → Text
without_colon name =
    if nat_le 1 (length name) && slice_index name (length name - 1) == 58 then take (length name - 1) name else name

-- what of a name may be that of a device: what stands behind folders and a drive, without an extension, and without a
-- colon behind it
abbrev pub device_part : Text → Text
device_part name = before_first is_dot (behind_last 58 (behind_last 92 (behind_last 47 (without_colon name))))

-- whether a name is this device, in any folder, with any extension or a colon behind it
abbrev pub is_device : Text → Text → Bool
is_device name device = is_keyword (device_part name) device

-- `NUL`: no file
abbrev pub is_null : Text → Bool
is_null name = is_device name (codes "nul")

-- whether this is `LPT` or `COM` with a digit behind it, 1 to 9
abbrev pub is_port : Text → Bool
is_port text =
    nat_le 1 (length text)
    && (nat_le 49 (slice_index text (length text - 1)) && nat_le (slice_index text (length text - 1)) 57
    && (is_keyword (take (length text - 1) text) (codes "lpt") || is_keyword (take (length text - 1) text) (codes "com")))

-- `CON`: the console
abbrev pub is_console : Text → Bool
is_console name = is_device name (codes "con")

-- the other devices, which are no files to write
abbrev pub is_refused : Text → Bool
is_refused name = is_device name (codes "prn") || is_device name (codes "aux") || is_port (device_part name)

-- whether a name ends with a byte that stands behind folders: a backslash, `/` or `:`
abbrev pub is_folder : Text → Bool
is_folder name =
    nat_le 1 (length name)
    && (slice_index name (length name - 1) == 92 || slice_index name (length name - 1) == 47
    || slice_index name (length name - 1) == 58)

-- whether a name begins with this byte
abbrev pub begins_with : ℕ → Text → Bool
begins_with byte name = nat_le 1 (length name) && slice_index name 0 == byte

-- an object: `(` begins overlays
abbrev pub object_meaning : Text → SaidLine → Result SaidLine FaultKind
object_meaning name said =
    if begins_with 40 name then Err fault.Overlays
    else Ok (record said { inputs = said.inputs ++ (File name ∷ []) })

-- the program's name, of which there is one
abbrev pub program_meaning : Text → SaidLine → Result SaidLine FaultKind
program_meaning name said =
    if is_some said.out then Err fault.SecondName
    else (if is_null name || (is_console name || is_refused name) then Err fault.Device
    else Ok (record said { out = Some name }))

-- the map's name, of which there is one
abbrev pub map_meaning : Text → SaidLine → Result SaidLine FaultKind
map_meaning name said =
    if is_some said.map then Err fault.SecondName
    else (if is_refused name then Err fault.Device else Ok (record said { map = Some name }))

-- the name of the file of definitions, of which there is one; NUL is none
abbrev pub definitions_meaning : Text → SaidLine → Result SaidLine FaultKind
definitions_meaning name said =
    if is_some said.definitions then Err fault.SecondName
    else (if is_console name || is_refused name then Err fault.Device
    else Ok (record said { definitions = Some name }))

-- a library, or a folder of libraries
abbrev pub library_meaning : Text → SaidLine → Result SaidLine FaultKind
library_meaning name said =
    if is_null name then Ok said
    else (if is_folder name then Ok (record said { folders = said.folders ++ (name ∷ []) })
    else Ok (record said { inputs = said.inputs ++ (Library name ∷ []) }))

-- what a name says in the field that comes next
abbrev pub field_meaning : Field → Text → SaidLine → Result SaidLine FaultKind
field_meaning Objects name said = object_meaning name said
field_meaning Program name said = program_meaning name said
field_meaning MapFile name said = map_meaning name said
field_meaning Libraries name said = library_meaning name said
field_meaning Definitions name said = definitions_meaning name said
field_meaning Ended name said = Err fault.BehindEnd

abbrev pub put_meaning : Text → SaidLine → Result SaidLine FaultKind
put_meaning name said = field_meaning said.field name (record said { continued = false })

-- a name without quotes: `@FILE` had to be read before
abbrev pub name_meaning : Text → SaidLine → Result SaidLine FaultKind
name_meaning name said = if begins_with 64 name then Err fault.Response else put_meaning name said

-- what a word's name says, where it has one
abbrev pub named_meaning : Option Text → SaidLine → Result SaidLine FaultKind
named_meaning None said = Ok said
named_meaning (Some name) said = name_meaning name said

-- a word: its name, and then its options
abbrev pub word_meaning : (place : ℕ) → Language → Text → SaidLine → Result SaidLine FaultKind
word_meaning place language text said =
    and_then (cut language text) (λ parts.
    and_then (named_meaning parts.name said) (options_meaning place language parts.options))

-- ---- marks

-- the field behind this one; none stands behind the definitions
abbrev pub later : Field → Field
later Objects = Program
later Program = MapFile
later MapFile = Libraries
later Libraries = Definitions
later Definitions = Definitions
later Ended = Ended

-- whether a field is the first, the map's, the last, and none
abbrev pub is_objects : Field → Bool
is_objects Objects = true
is_objects Program = false
is_objects MapFile = false
is_objects Libraries = false
is_objects Definitions = false
is_objects Ended = false

abbrev pub is_map : Field → Bool
is_map Objects = false
is_map Program = false
is_map MapFile = true
is_map Libraries = false
is_map Definitions = false
is_map Ended = false

abbrev pub is_last : Field → Bool
is_last Objects = false
is_last Program = false
is_last MapFile = false
is_last Libraries = false
is_last Definitions = true
is_last Ended = false

abbrev pub is_ended : Field → Bool
is_ended Objects = false
is_ended Program = false
is_ended MapFile = false
is_ended Libraries = false
is_ended Definitions = false
is_ended Ended = true

-- the settings behind a comma: a map whose field it reaches is made
abbrev pub reached : Field → Settings → Settings
reached field s = record s { makes_map = s.makes_map || is_map field }

-- a comma ends a field, and a line's end behind it ends no other one
abbrev pub comma_meaning : SaidLine → Result SaidLine FaultKind
comma_meaning said =
    if is_last said.field then Err fault.TooManyFields
    else Ok (record said {
      field = later said.field;
      continued = true;
      settings = reached (later said.field) said.settings;
    })

-- whether no object stands before
abbrev pub is_before_objects : SaidLine → Bool
is_before_objects said = is_objects said.field && length said.inputs == 0

-- a line's end: nothing behind `+` or a comma, or before the first object; else the field ends
abbrev pub line_end_meaning : SaidLine → SaidLine
line_end_meaning said =
    if said.continued then record said { continued = false }
    else (if is_before_objects said then said else record said { field = later said.field })

-- what a token says before `;`
abbrev pub open_meaning : (place : ℕ) → Language → Piece → SaidLine → Result SaidLine FaultKind
open_meaning place language (Word text) said = word_meaning place language text said
open_meaning place language (Quoted text) said = put_meaning text said
open_meaning place language Unclosed said = Err fault.UnclosedQuote
open_meaning place language Blank said = Ok said
open_meaning place language Plus said = Ok (record said { continued = true })
open_meaning place language Comma said = comma_meaning said
open_meaning place language Semicolon said = Ok (record said { field = Ended })
open_meaning place language LineEnd said = Ok (line_end_meaning said)

-- whether a token may stand behind `;`
abbrev pub says_nothing : Piece → Bool
says_nothing (Word text) = false
says_nothing (Quoted text) = false
says_nothing Unclosed = false
says_nothing Blank = true
says_nothing Plus = true
says_nothing Comma = false
says_nothing Semicolon = true
says_nothing LineEnd = true

-- what a token says
unfoldable pub token_meaning : Language → PlacedPiece → SaidLine → Result SaidLine FaultKind
token_meaning language token said =
    if is_ended said.field then (if says_nothing token.piece then Ok said else Err fault.BehindEnd)
    else open_meaning token.place language token.piece said

-- ---- TLINK.CFG

-- a word of options alone
abbrev pub options_alone : (place : ℕ) → Language → SaidCut → SaidLine → Result SaidLine FaultKind
options_alone place language parts said =
    if is_some parts.name then Err fault.NoOption else options_meaning place language parts.options said

-- what a token of TLINK.CFG says, of whose text each line is options: no name stands in it, and no mark that parts
-- names or fields. `;` says nothing there
abbrev pub configured_meaning : (place : ℕ) → Language → Piece → SaidLine → Result SaidLine FaultKind
configured_meaning place language (Word text) said =
    and_then (cut language text) (λ parts. options_alone place language parts said)
configured_meaning place language (Quoted text) said = Err fault.NoOption
configured_meaning place language Unclosed said = Err fault.NoOption
configured_meaning place language Blank said = Ok said
configured_meaning place language Plus said = Err fault.NoOption
configured_meaning place language Comma said = Err fault.NoOption
configured_meaning place language Semicolon said = Ok said
configured_meaning place language LineEnd said = Ok said

-- ---- the line

-- the first word that is at fault: its place, its text and what is wrong with it
pub record WrongWord : Type 0 where
  pub place : ℕ
  pub word : Text
  pub kind : FaultKind

-- what follows from a token
abbrev pub on_token : PlacedPiece → Result SaidLine FaultKind → (SaidLine → Result SaidLine WrongWord)
    → Result SaidLine WrongWord
on_token token (Ok said) next = next said
on_token token (Err kind) next = Err (record { place = token.place; word = text_of token.piece; kind = kind })

-- what a token says in a part of a line
abbrev pub part_meaning : Part → Language → PlacedPiece → SaidLine → Result SaidLine FaultKind
part_meaning Front Tlink token said = configured_meaning token.place Tlink token.piece said
part_meaning Front Link token said = token_meaning Link token said
part_meaning Behind language token said = token_meaning language token said

-- what the tokens of a part of a line say behind what is said
abbrev pub tokens_meaning : Part → Language → List PlacedPiece → SaidLine → Result SaidLine WrongWord
tokens_meaning part language [] said = Ok said
tokens_meaning part language (token ∷ more) said =
    on_token token (part_meaning part language token said) (tokens_meaning part language more)

-- whether an object is named
abbrev pub has_object : List SaidInput → Bool
has_object [] = false
has_object (File path ∷ more) = true
has_object (Library name ∷ more) = false

-- what is said, where an object is named
abbrev pub with_object : (total : ℕ) → SaidLine → Result SaidLine WrongWord
with_object total said =
    if has_object said.inputs then Ok said
    else Err (record { place = total; word = []; kind = fault.NoObject })

-- what is done with what is said, where nothing is at fault
abbrev pub if_said : Result SaidLine WrongWord → (SaidLine → Result SaidLine WrongWord) → Result SaidLine WrongWord
if_said (Ok said) next = next said
if_said (Err wrong) next = Err wrong

-- what the front of a line says: under LINK the environment's LINK, which is read as the rest
-- is, and under TLINK what TLINK.CFG says
unfoldable pub front_meaning : Language → (front : Text) → Result SaidLine WrongWord
front_meaning language front = tokens_meaning Front language (tokens language front) (nothing_said language)

-- what the rest of a line of `total` bytes says, behind what is said
unfoldable pub rest_meaning : Language → (total : ℕ) → Text → SaidLine → Result SaidLine WrongWord
rest_meaning language total text said =
    if_said (tokens_meaning Behind language (tokens_ending language total text) said) (with_object total)

-- what a line says that is a front and a text behind it: places are counted through both
abbrev pub meaning : Language → (front text : Text) → Result SaidLine WrongWord
meaning language front text =
    if_said (front_meaning language front) (rest_meaning language (length front + length text) text)
