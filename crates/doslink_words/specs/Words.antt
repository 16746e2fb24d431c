-- The command line: what it takes, and which job its values are.
use Rattle.std.specs.Prelude.{◌≡◌, ◌==◌, ℕ, true, false, not, List, [], Option, Some, None, map, codes}
use Rattle.std.specs.Prelude.{◌∷◌, ◌&&◌, ◌||◌, Bool, if◌then◌else◌, is_some}
use Rattle.std.specs.Option.{option_and_then, option_map, unwrap_or}
use Rattle.std.specs.List.{slice_split}
use Rattle.std.specs.Str.{bytes_eq}
use Rattle.clap.specs.Words.{App, Row, Rule, Text, all_of, fault_of, first_of, matches_of, new_app, new_rule}
use Rattle.clap.specs.Words.{with_rule}
use Rattle.clap.specs.declared.builder.action.ArgAction.TheVariants.{Append, SetTrue}
use Rattle.command_line.specs.Rules.{case_rule, files_rule, flag_rule, map_rule}
pub use Rattle.command_line.specs.Values.{IsFlag}
use Rattle.doslink_words.specs.declared.job.Form.{Form}
use Rattle.doslink_words.specs.declared.job.Form.TheVariants as form
use Rattle.doslink_words.specs.declared.job.Job.{Job}
use Rattle.doslink_words.specs.declared.job.MapForm.{MapForm}
use Rattle.doslink_words.specs.declared.job.MapForm.TheVariants as map_form
use Rattle.doslink_words.specs.declared.job.Stack.{Stack}
use Rattle.doslink_words.specs.declared.named.Expected.TheVariants.{Any}
use Rattle.doslink_words.specs.Keywords.{is_keyword}
use Rattle.doslink_words.specs.Named.{in_order, kinds_named}
use Rattle.doslink_words.specs.Said.{SaidOrder, Meeting, Dosseg, Listed, Class, At, has_header, inputs_of, map_of}
use Rattle.doslink_words.specs.Said.{order_of}
use Rattle.doslink_words.specs.Sizes.{paragraph, stack_bytes}
use Rattle.doslink_words.specs.Tokens.{texts}

-- the program that is written: `-o OUT`
abbrev pub out_rule : Rule
out_rule = record (new_rule (codes "OUT")) { short = Some 111 }

-- an option with a value by its letter, any number of times
abbrev pub list_rule : Text → ℕ → Rule
list_rule name short = record (new_rule name) { short = Some short; action = Some Append }

-- a folder of libraries: `-L FOLDER`
abbrev pub folder_rule : Rule
folder_rule = list_rule (codes "FOLDER") 76

-- a library: `-l LIB`
abbrev pub library_rule : Rule
library_rule = list_rule (codes "LIB") 108

-- the order of classes: `--order dosseg`, `--order CLASS,CLASS,..`
abbrev pub order_rule : Rule
order_rule = record (new_rule (codes "ORDER")) { long = Some (codes "order") }

-- the length of the stack: `--stack N`
abbrev pub stack_rule : Rule
stack_rule = record (new_rule (codes "N")) { long = Some (codes "stack") }

-- the form of the file: `--form FORM`
abbrev pub form_rule : Rule
form_rule = record (new_rule (codes "FORM")) { long = Some (codes "form") }

-- the paragraph at which a raw image is located: `--at PARAGRAPH`
abbrev pub at_rule : Rule
at_rule = record (new_rule (codes "PARAGRAPH")) { long = Some (codes "at") }

-- the form of the map: `--map-form NAME`
abbrev pub map_form_rule : Rule
map_form_rule = record (new_rule (codes "NAME")) { long = Some (codes "map-form") }

-- `--no-default-libs`, a flag
abbrev pub no_defaults_rule : Rule
no_defaults_rule = flag_rule (codes "no-default-libs")

-- `--keep-debug`, a flag
abbrev pub debug_rule : Rule
debug_rule = flag_rule (codes "keep-debug")

-- `-v`, a flag
abbrev pub verbose_rule : Rule
verbose_rule = record (new_rule (codes "verbose")) { short = Some 118; action = Some SetTrue }

-- the command before it has arguments
abbrev pub bare_command : App
bare_command =
    let app = new_app (codes "doslink") in
    record app { top = record app.top { no_binary_name = true; arg_required_else_help = true; has_version = true } }

-- `-o OUT`, `-m MAP`, `-L FOLDER`, `-l LIB` and the files
abbrev pub files_command : App
files_command =
    with_rule (with_rule (with_rule (with_rule (with_rule bare_command out_rule) map_rule) folder_rule) library_rule)
    files_rule

-- the command `doslink`
unfoldable pub doslink_command : App
doslink_command =
    with_rule (with_rule (with_rule (with_rule (with_rule (with_rule (with_rule (with_rule (with_rule files_command
    case_rule) order_rule) stack_rule) form_rule) at_rule) map_form_rule) no_defaults_rule) debug_rule) verbose_rule

-- whether the only word is `help`
abbrev pub is_help : List Text → Bool
is_help (word ∷ []) = bytes_eq word (codes "help")
is_help _ = false

-- `help` alone asks for the same as `--help`
abbrev pub asked : List Text → List Text
asked words = if is_help words then codes "--help" ∷ [] else words

-- the values of an argument, none where it isn't given
abbrev pub values_of : Text → List Row → List Text
values_of id rows = unwrap_or (all_of id rows) []

-- the order DOSSEG by its name, and by the one that asks for no null bytes
abbrev pub is_dosseg : Text → Bool
is_dosseg word = is_keyword word (codes "dosseg") || is_keyword word (codes "dosseg-nonulls")

-- an order as a word: DOSSEG by its name, else classes, which commas separate
abbrev pub order_asked : Option Text → SaidOrder
order_asked None = Meeting
order_asked (Some word) = if is_dosseg word then Dosseg else Listed (map Class (slice_split (λ byte. byte == 44) word))

-- whether the order DOSSEG has null bytes: wherever nothing asks for none, in a file with a header
abbrev pub nulls_asked : Option Text → Option Form → Bool
nulls_asked None form = has_header form
nulls_asked (Some word) form = has_header form && not (is_keyword word (codes "dosseg-nonulls"))

-- the stack as a word: a longer one is a fault
abbrev pub stack_asked : Option Text → Option Stack
stack_asked None = None
stack_asked (Some word) = option_map (λ n. record { bytes = n; cuts = false }) (stack_bytes word)

-- whether a word is no length of a stack
abbrev pub is_no_stack : Option Text → Bool
is_no_stack None = false
is_no_stack (Some word) = not (is_some (stack_bytes word))

-- the form of a name; of a raw image that at a paragraph, from its first byte on
abbrev pub form_named : Text → (paragraph : ℕ) → Option Form
form_named word paragraph =
    if is_keyword word (codes "exe") then Some form.Exe
    else (if is_keyword word (codes "com") then Some form.Com
    else (if is_keyword word (codes "bin") then Some (form.Raw paragraph 0)
    else (if is_keyword word (codes "sys") then Some form.Driver
    else None)))

-- the form as words: its name, and a paragraph, which is 0 where none is given
abbrev pub form_asked : (word at : Option Text) → Option Form
form_asked None at = None
form_asked (Some word) at = form_named word (unwrap_or (option_and_then paragraph at) 0)

-- whether a form is a raw image
abbrev pub is_raw : Option Form → Bool
is_raw (Some (form.Raw paragraph from)) = true
is_raw _ = false

-- whether a paragraph is none, or is given where no raw image is asked for
abbrev pub is_no_place : (form : Option Form) → (at : Option Text) → Bool
is_no_place asked None = false
is_no_place asked (Some word) = not (is_raw asked) || not (is_some (paragraph word))

-- whether words are no form: a name that is none, or a paragraph that it doesn't take
abbrev pub is_no_form : (word at : Option Text) → Bool
is_no_form None at = is_no_place None at
is_no_form (Some word) at =
    not (is_some (form_asked (Some word) at)) || is_no_place (form_asked (Some word) at) at

-- the form of a map by its name
abbrev pub map_form_named : Text → Option MapForm
map_form_named word =
    if is_keyword word (codes "omf") then Some map_form.Omf
    else (if is_keyword word (codes "link") then Some (map_form.Link false)
    else (if is_keyword word (codes "tlink") then Some (map_form.Tlink false false)
    else None))

-- the form of the map as a word: that of `omf` where none is given
abbrev pub map_form_asked : Option Text → MapForm
map_form_asked word = unwrap_or (option_and_then map_form_named word) map_form.Omf

-- whether a word is no form of a map
abbrev pub is_no_map_form : Option Text → Bool
is_no_map_form None = false
is_no_map_form (Some word) = not (is_some (map_form_named word))

-- whether some value is none that its option takes
abbrev pub has_wrong_value : List Row → Bool
has_wrong_value rows =
    is_no_stack (first_of (codes "N") rows)
    || (is_no_form (first_of (codes "FORM") rows) (first_of (codes "PARAGRAPH") rows)
    || is_no_map_form (first_of (codes "NAME") rows))

-- `job` is what these values, which words give, ask for
pub record IsJobOf (words : List Text) (rows : List Row) (job : Job) : Type 0 where
  pub inputs : inputs_of job.inputs.items
      ≡ in_order (kinds_named Any words) (values_of (codes "FILES") rows) (values_of (codes "LIB") rows)
  pub out : option_map (λ path. path.now) job.out ≡ first_of (codes "OUT") rows
  pub map : option_map map_of job.map ≡ option_map At (first_of (codes "MAP") rows)
  pub map_form : job.map_form ≡ map_form_asked (first_of (codes "NAME") rows)
  pub folders : texts job.folders.items ≡ values_of (codes "FOLDER") rows
  pub object_folders : job.object_folders.items ≡ []
  pub ignore_case : IsFlag (codes "ignore-case") rows job.ignore_case
  pub order : order_of job.order ≡ order_asked (first_of (codes "ORDER") rows)
  pub null_bytes : job.null_bytes ≡ nulls_asked (first_of (codes "ORDER") rows) job.form
  pub stack : job.stack ≡ stack_asked (first_of (codes "N") rows)
  pub form : job.form ≡ form_asked (first_of (codes "FORM") rows) (first_of (codes "PARAGRAPH") rows)
  pub default_libraries : IsFlag (codes "no-default-libs") rows (not job.default_libraries)
  pub left_out : job.left_out.items ≡ []
  pub keep_debug : IsFlag (codes "keep-debug") rows job.keep_debug
  pub packs_far_data : job.packs_far_data ≡ false
  pub verbose : IsFlag (codes "verbose") rows job.verbose
  pub quiet : job.quiet ≡ false
  pub start : job.start ≡ None
  pub references : job.references.items ≡ []
  pub aliases : job.aliases.items ≡ []

-- the values that the words give
abbrev pub values_in : List Text → List Row
values_in words = matches_of doslink_command (asked words)

-- the command has no fault at the words, and no value is wrong
unfoldable pub AreTaken : List Text → Type 0
AreTaken words = (fault_of doslink_command (asked words) ≡ []) × (has_wrong_value (values_in words) ≡ false)

-- the words are taken, and `job` is what their values ask for
unfoldable pub IsJobFor : List Text → Job → Type 0
IsJobFor words job = AreTaken words × IsJobOf (asked words) (values_in words) job
