-- What a job says of names beside its modules: where the program starts, names that are wanted, and aliases. A module
-- says it that is given behind those that the job names.
use Rattle.std.specs.Prelude.{ℕ, ◌||◌, Bool, if◌then◌else◌, is_some, nat_lt, length, List, None, Some}
use Rattle.std.specs.declared.option.Option.{Option}
use Rattle.std.specs.Option.{option_map}
use Rattle.std.specs.Str.{bytes_eq}
use Rattle.omf_module.specs.Module.{Module}
use Rattle.omf_names.specs.Records.{names_module}
use Rattle.doslink_words.specs.declared.job.Job.{Job}
use Rattle.doslink_words.specs.Said.{aliases_of}
use Rattle.doslink_words.specs.Tokens.{texts}

-- the module of what a job says of names
abbrev pub names_bytes : Job → List ℕ
names_bytes job =
    names_module (option_map (λ s. s.now) job.start) (texts job.references.items) (aliases_of job.aliases.items)

-- whether a job says something of names
abbrev pub says_names : Job → Bool
says_names job =
    is_some job.start || nat_lt 0 (length job.references.items) || nat_lt 0 (length job.aliases.items)

-- that module, where it does
abbrev pub said_names : Job → Option (List ℕ)
said_names job = if says_names job then Some (names_bytes job) else None

-- ---- the start

-- the module that says where the program starts, where some start is told
abbrev pub start_module : Job → Option (List ℕ)
start_module job = option_map (λ s. names_bytes job) job.start

-- a module that is given as these bytes: where there is such a module, any other is without its own start
abbrev pub started_by : Option (List ℕ) → (bytes : List ℕ) → Module → Module
started_by None bytes m = m
started_by (Some made) bytes m = if bytes_eq bytes made then m else record m { start = None }
