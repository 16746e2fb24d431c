-- The names that a line's job writes, as the code has them.
use Rattle.std.specs.Prelude.{◌≡◌, None, Some, string_bytes}
use Rattle.std.specs.declared.option.Option.{Option}
use Rattle.std.specs.Option.{option_map}
use Rattle.clap.specs.Words.{Text}
use Rattle.doslink_words.specs.Said.{SaidMap, At, map_of}
use Rattle.doslink_words.specs.declared.job.Job.{Job}
use Rattle.doslink_words.specs.declared.job.MapFile.{MapFile}
use Rattle.doslink_asked.specs.Lines.{line_map, line_out}
use Rattle.doslink_asked.specs.declared.line_names.Names.{Names}

-- a map at the path of this name, where there is one
abbrev pub named_map : Option MapFile → (name : Option Text) → Option SaidMap
named_map map None = option_map map_of map
named_map map (Some name) = Some (At name)

-- these are the names of what a job writes
abbrev pub AreNamesOf : Job → Names → Type 0
AreNamesOf job names =
    (string_bytes names.out ≡ line_out job)
    × (named_map job.map (option_map string_bytes names.map)
    ≡ option_map (line_map (line_out job)) (option_map map_of job.map))
