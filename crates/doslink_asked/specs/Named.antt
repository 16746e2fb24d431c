-- The name of the program that directives say.
use Rattle.std.specs.Prelude.{◌≡◌, map, Some, if◌then◌else◌}
use Rattle.std.specs.declared.option.Option.{Option}
use Rattle.std.specs.Char.{to_ascii_lowercase}
use Rattle.std.specs.Option.{option_map, unwrap_or}
use Rattle.clap.specs.Words.{Text}
use Rattle.doslink_words.specs.declared.job.Form.{Form}
use Rattle.doslink_words.specs.declared.job.Form.TheVariants.{Exe}
use Rattle.doslink_words.specs.declared.job.Job.{Job}
use Rattle.doslink_asked.specs.Lines.{base_name, whole_path}
use Rattle.doslink_asked.specs.Paths.{extension_for, first_file, is_output, path_after}

-- the extension of a file of a form, in small letters
abbrev pub small_extension : Option Form → Text
small_extension form = map to_ascii_lowercase (extension_for form)

-- the first object's name, with that extension
abbrev pub small_name : Job → Text
small_name job = path_after (option_map base_name (first_file job.inputs.items)) (small_extension job.form)

-- a name that is said of a job's program: it takes the extension where it has none, and a folder alone is that of the
-- first object's name; but standard output is no file
abbrev pub named_out : Job → (out : Text) → Text
named_out job out =
    if is_output out then out else whole_path out (small_name job) (small_extension job.form)

-- a job with the name whole that it says of its program, which is an EXE file where no form is said
pub record IsNamed (job whole : Job) : Type 0 where
  pub out : option_map (λ out. out.now) whole.out ≡ option_map (λ out. named_out job out.now) job.out
  pub form : whole.form ≡ Some (unwrap_or job.form Exe)
  pub others : whole ≡ record job { out = whole.out; form = whole.form }
