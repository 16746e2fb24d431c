-- The job that a line's words ask for.
use Rattle.std.specs.Prelude.{◌≡◌, ◌==◌, ◌||◌, ⊤, not, [], Bool, true, false, ℕ, codes}
use Rattle.std.specs.Prelude.{Option, Some, None, Result, Ok, Err, if◌then◌else◌}
use Rattle.std.specs.List.{list_any}
use Rattle.std.specs.Option.{option_and_then, option_map, option_map_or}
use Rattle.std.specs.Path.{rsplit_once}
use Rattle.clap.specs.Words.{Text}
use Rattle.doslink_words.specs.Keywords.{is_keyword}
use Rattle.doslink_words.specs.Said.{SaidMap, SaidOrder, At, Beside, Dosseg, Meeting, inputs_of, map_of, order_of}
use Rattle.doslink_words.specs.Tokens.{texts}
use Rattle.doslink_words.specs.declared.job.Form.{Form}
use Rattle.doslink_words.specs.declared.job.Form.TheVariants.{Exe, LimitedExe, Com, FromStart}
use Rattle.doslink_words.specs.declared.job.MapForm.{MapForm}
use Rattle.doslink_words.specs.declared.job.MapForm.TheVariants as map_form
use Rattle.doslink_words.specs.declared.job.Stack.{Stack}
use Rattle.makefile_words.specs.Lines.{SaidLine, WrongWord, is_console, is_null}
use Rattle.makefile_words.specs.declared.faults.LineFault.{LineFault}
use Rattle.makefile_words.specs.declared.faults.LineFault.TheVariants as line_fault
use Rattle.makefile_words.specs.declared.job.MakefileJob.{MakefileJob}
use Rattle.makefile_words.specs.declared.settings.Ordering.{Ordering}
use Rattle.makefile_words.specs.declared.settings.Ordering.TheVariants as ordering
use Rattle.makefile_words.specs.declared.settings.Settings.{Settings}
use Rattle.makefile_words.specs.declared.tokens.Language.{Language}
use Rattle.makefile_words.specs.declared.tokens.Language.TheVariants.{Tlink, Link}

-- a map that isn't named: beside the program, where one is made or its publics or line numbers are asked for
abbrev pub map_beside : Settings → Option SaidMap
map_beside s = if s.makes_map || s.publics || s.line_numbers then Some Beside else None

-- a map of this name, which is none where that is NUL, and on standard output where it is CON
abbrev pub map_named : Settings → Option Text → Option SaidMap
map_named s None = map_beside s
map_named s (Some name) =
    if is_null name then None else (if is_console name then Some (At (codes "-")) else Some (At name))

-- the map, where one is made
abbrev pub map_asked : Settings → Option Text → Option SaidMap
map_asked s name = if s.no_map then None else map_named s name

-- the file of definitions, which is none where its name is NUL
abbrev pub definitions_asked : Option Text → Option Text
definitions_asked None = None
definitions_asked (Some name) = if is_null name then None else Some name

abbrev pub order_asked : Ordering → SaidOrder
order_asked ordering.Meeting = Meeting
order_asked ordering.Dosseg = Dosseg
order_asked ordering.WithoutNulls = Dosseg

-- the form of the map is the linker's own, with line numbers or without; TLINK's may have the detailed map of segments
abbrev pub map_form_of : Language → Settings → MapForm
map_form_of Tlink s = map_form.Tlink s.line_numbers s.detailed
map_form_of Link s = map_form.Link s.line_numbers

-- whether an order is one without null bytes
abbrev pub is_without_nulls : Ordering → Bool
is_without_nulls ordering.Meeting = false
is_without_nulls ordering.Dosseg = false
is_without_nulls ordering.WithoutNulls = true

-- whether the order DOSSEG has null bytes: not under TLINK, and not in a .COM file
abbrev pub nulls_asked : Language → Form → Ordering → Bool
nulls_asked Tlink form order = false
nulls_asked Link Com order = false
nulls_asked Link _ order = not (is_without_nulls order)

-- whether a byte stands behind a folder or a drive: a backslash, `/` or `:`
abbrev pub ends_folder : ℕ → Bool
ends_folder byte = byte == 92 || byte == 47 || byte == 58

-- the extension of a name: what stands behind its last dot, where no folder or drive does
abbrev pub name_extension : Text → Option Text
name_extension name =
    option_and_then (λ parts. if list_any ends_folder parts.1 then None else Some parts.1) (rsplit_once 46 name)

-- whether a name has an extension, and another one than .COM
abbrev pub has_other_extension : Text → Bool
has_other_extension name =
    option_map_or (λ extension. not (is_keyword extension (codes "com"))) (name_extension name) false

-- whether a file that is asked for as a .COM file begins at the program's start, which may be at 0 too: by TLINK, where
-- the name that is said has another extension
abbrev pub is_from_start : Language → (out : Option Text) → Bool
is_from_start Tlink out = option_map_or has_other_extension out false
is_from_start Link out = false

-- the form of the program's file: an EXE file may have a limit of the memory behind its image
abbrev pub form_asked : Language → (said : Form) → (most_extra : Option ℕ) → (out : Option Text) → Form
form_asked language Exe (Some paragraphs) out = LimitedExe paragraphs
form_asked language Com most_extra out = if is_from_start language out then FromStart else Com
form_asked language form _ _ = form

-- the stack, which a longer one is cut to
abbrev pub stack_asked : Option ℕ → Option Stack
stack_asked bytes = option_map (λ n. record { bytes = n; cuts = true }) bytes

-- `made` is what is said
pub record IsJobOf (language : Language) (said : SaidLine) (made : MakefileJob) : Type 0 where
  pub inputs : inputs_of made.job.inputs.items ≡ said.inputs
  pub out : option_map (λ name. name.now) made.job.out ≡ said.out
  pub map : option_map map_of made.job.map ≡ map_asked said.settings said.map
  pub map_form : made.job.map_form ≡ map_form_of language said.settings
  pub folders : texts made.job.folders.items ≡ said.folders
  pub object_folders : texts made.job.object_folders.items ≡ said.object_folders
  pub ignore_case : made.job.ignore_case ≡ not said.settings.case_counts
  pub order : order_of made.job.order ≡ order_asked said.settings.order
  pub null_bytes : made.job.null_bytes ≡ nulls_asked language said.settings.form said.settings.order
  pub stack : made.job.stack ≡ stack_asked said.settings.stack
  pub form : made.job.form ≡ Some (form_asked language said.settings.form said.settings.most_extra said.out)
  pub default_libraries : made.job.default_libraries ≡ not said.settings.no_defaults
  pub left_out : texts made.job.left_out.items ≡ said.left_out
  pub keep_debug : made.job.keep_debug ≡ false
  pub packs_far_data : made.job.packs_far_data ≡ false
  pub verbose : made.job.verbose ≡ said.settings.verbose
  pub quiet : made.job.quiet ≡ false
  pub start : made.job.start ≡ None
  pub references : made.job.references.items ≡ []
  pub aliases : made.job.aliases.items ≡ []
  pub definitions : option_map (λ name. name.now) made.definitions ≡ definitions_asked said.definitions
  pub settings : made.settings ≡ said.settings
  pub warnings : made.warnings.items ≡ said.warnings

-- an answer is the job of what a line says, its first word at fault, or want of memory
abbrev pub Means : Language → Result MakefileJob LineFault → Result SaidLine WrongWord → Type 0
Means language (Ok made) (Ok said) = IsJobOf language said made
Means language (Ok made) (Err wrong) = ⊥
Means language (Err line_fault.Memory) meant = ⊤
Means language (Err (line_fault.Word place word kind)) meant =
    meant ≡ Err (record { place = place; word = word.now; kind = kind })
