-- The warnings of a program that was linked and can't be run as it is meant (docs/DOSLINK.md, "Faults and statuses").
use Rattle.std.specs.Prelude.{ℕ, ◌-◌, nat_lt, Bool, if◌then◌else◌, is_none, is_some, length, List, [], ◌++◌}
use Rattle.std.specs.Prelude.{slice_get, take, ◌&&◌, codes}
use Rattle.std.specs.declared.option.Option.{Option}
use Rattle.std.specs.List.{flat_map, list_any}
use Rattle.std.specs.Option.{option_map_or, unwrap_or}
use Rattle.omf_communal.specs.Deciding.{Variable}
use Rattle.omf_communal.specs.Far.{Reached, far_by_offset}
use Rattle.omf_module.specs.Module.{Module, Segment}
use Rattle.omf_stack.specs.Stack.{is_stack}
use Rattle.doslink_telling.specs.Missing.{told_lines}
use Rattle.doslink_telling.specs.Warnings.{no_code_line, no_stack_line, no_start_line, reached_line}
use Rattle.doslink_words.specs.declared.job.Form.{Form}
use Rattle.doslink_words.specs.declared.job.Job.{Job}
use Rattle.doslink_words.specs.Said.{has_header}
use Rattle.doslink_passes.specs.Request.{names_of}

-- a module says where the program starts
abbrev pub has_start : Module → Bool
has_start m = is_some m.start

-- a segment is a part of the stack, and has a byte
abbrev pub holds_stack : Segment → Bool
holds_stack s = is_stack s && nat_lt 0 s.length

-- a module has a byte of the stack
abbrev pub has_stack : Module → Bool
has_stack m = list_any holds_stack m.segments

-- a module has a byte of code or data with a value
abbrev pub has_data : Module → Bool
has_data m = list_any (λ r. nat_lt 0 (length r.pairs)) m.data_records

-- no module says where the program starts
abbrev pub start_warning : List Module → List ℕ
start_warning modules = if list_any has_start modules then [] else no_start_line

-- no module has a byte of the stack
abbrev pub stack_warning : List Module → List ℕ
stack_warning modules = if list_any has_stack modules then [] else no_stack_line

-- no module has a byte of code
abbrev pub code_warning : List Module → List ℕ
code_warning modules = if list_any has_data modules then [] else no_code_line

-- those of what a file with a header tells
abbrev pub header_warnings : Option Form → List Module → List ℕ
header_warnings form modules = if has_header form then start_warning modules ++ stack_warning modules else []

-- all of these
abbrev pub lacking_warnings : Option Form → List Module → List ℕ
lacking_warnings form modules = header_warnings form modules ++ code_warning modules

-- ---- far communal variables that modules reach by their offsets alone

-- the warning of one; the words are those of the modules
abbrev pub reached_warning : (words : List (List ℕ)) → Reached → List ℕ
reached_warning words r = reached_line r.name (unwrap_or (slice_get words r.«module») [])

-- those of a program with these variables
abbrev pub reached_warnings : Job → List Module → List Variable → (words : List (List ℕ)) → List ℕ
reached_warnings job modules vs words =
    told_lines (reached_warning words) (far_by_offset (names_of job.ignore_case) vs modules) job.verbose

-- ---- all of them, of what was linked

abbrev pub program_warnings : Job → List Module → List Variable → (words : List (List ℕ)) → List ℕ
program_warnings job modules vs words = lacking_warnings job.form modules ++ reached_warnings job modules vs words
