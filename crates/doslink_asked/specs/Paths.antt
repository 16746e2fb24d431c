-- Paths of what a job writes, made of others.
use Rattle.std.specs.Prelude.{◌||◌, Bool, List, [], ◌∷◌, ◌++◌, bytes_eq, codes, None, Some, if◌then◌else◌}
use Rattle.std.specs.declared.option.Option.{Option}
use Rattle.std.specs.Option.{option_map_or}
use Rattle.std.specs.Path.{rsplit_once}
use Rattle.clap.specs.Words.{Text}
use Rattle.doslink_words.specs.Keywords.{is_keyword}
use Rattle.doslink_words.specs.declared.job.Form.{Form}
use Rattle.doslink_words.specs.declared.job.Form.TheVariants as form
use Rattle.doslink_words.specs.declared.job.Input.{Input}
use Rattle.doslink_words.specs.declared.job.Input.TheVariants as input
use Rattle.doslink_files.specs.Paths.{has_extension}

-- a path without the last dot in its last part, and what stands behind that
abbrev pub without_extension : Text → Text
without_extension path =
    if has_extension path then option_map_or (λ parts. parts.0) (rsplit_once 46 path) path else path

-- what stands behind the last dot in the last part of a path
abbrev pub extension_of : Text → Text
extension_of path =
    if has_extension path then option_map_or (λ parts. parts.1) (rsplit_once 46 path) [] else []

-- a path with an extension in place of its own
abbrev pub with_extension : (path extension : Text) → Text
with_extension path extension = without_extension path ++ extension

-- the path of the first file among what is linked
abbrev pub first_file : List Input → Option Text
first_file [] = None
first_file (input.File path ∷ inputs) = Some path.now
first_file (input.Library name ∷ inputs) = first_file inputs

-- the extension of a file of a form
abbrev pub extension_for : Option Form → Text
extension_for None = codes ".EXE"
extension_for (Some form.Exe) = codes ".EXE"
extension_for (Some (form.LimitedExe paragraphs)) = codes ".EXE"
extension_for (Some form.Com) = codes ".COM"
extension_for (Some form.FromStart) = codes ".COM"
extension_for (Some (form.Raw paragraph from)) = codes ".BIN"
extension_for (Some form.Driver) = codes ".SYS"

-- the path of a program that is called after this file: none, and standard input, have no name
abbrev pub path_after : Option Text → (extension : Text) → Text
path_after None extension = with_extension (codes "OUT") extension
path_after (Some name) extension =
    if bytes_eq name (codes "-") then with_extension (codes "OUT") extension else with_extension name extension

-- a path that is no file, but standard output
abbrev pub is_output : Text → Bool
is_output path = bytes_eq path (codes "-")

-- the extension of a file of another form than .EXE
abbrev pub is_other_form : Text → Bool
is_other_form extension =
    is_keyword extension (codes "com") || is_keyword extension (codes "sys") || is_keyword extension (codes "bin")
    || is_keyword extension (codes "img")
