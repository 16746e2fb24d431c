-- Where the program and its map are written.
use Rattle.std.specs.Prelude.{Bool, false, List, [], ◌∷◌, codes, None, Some, if◌then◌else◌}
use Rattle.std.specs.declared.option.Option.{Option}
use Rattle.std.specs.Option.{option_map_or, option_or}
use Rattle.clap.specs.Words.{Text}
use Rattle.doslink_words.specs.declared.job.Input.{Input}
use Rattle.doslink_words.specs.declared.job.Input.TheVariants as input
use Rattle.doslink_words.specs.declared.job.Job.{Job}
use Rattle.doslink_words.specs.declared.job.MapFile.{MapFile}
use Rattle.doslink_words.specs.declared.job.MapFile.TheVariants.{At, Beside}
use Rattle.doslink_asked.specs.Paths.{extension_for, first_file, is_output, path_after, with_extension}

-- the name of the first library
abbrev pub first_library : List Input → Option Text
first_library [] = None
first_library (input.File path ∷ inputs) = first_library inputs
first_library (input.Library name ∷ inputs) = Some name.now

-- the path of the program: the one that is given, or that of the first file, or else of the first library, with the
-- extension of the form in place of its own
abbrev pub out_path : Job → Text
out_path job =
    option_map_or (λ out. out.now) job.out
    (path_after (option_or (first_file job.inputs.items) (first_library job.inputs.items)) (extension_for job.form))

-- the path of a program for what stands beside it: on standard output it has none, and `OUT` stands for it
abbrev pub file_path : (out : Text) → Text
file_path out = if is_output out then codes "OUT" else out

-- the path of the map, beside a program at this path
abbrev pub map_beside : (out : Text) → Option MapFile → Option Text
map_beside out None = None
map_beside out (Some (At path)) = Some path.now
map_beside out (Some Beside) = Some (with_extension (file_path out) (codes ".MAP"))

-- the path of the map, where one is asked for
abbrev pub map_path : Job → Option Text
map_path job = map_beside (out_path job) job.map

-- the path that is looked at for what stands at a path that is written: standard output is what /dev/stdout leads to
abbrev pub looked_path : Text → Text
looked_path path = if is_output path then codes "/dev/stdout" else path

-- a map is written there
abbrev pub is_map_output : MapFile → Bool
is_map_output (At path) = is_output path.now
is_map_output Beside = false
