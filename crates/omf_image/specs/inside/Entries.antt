-- The data records and the starts of modules from an input on.
use Rattle.std.specs.Prelude.{ℕ, List, map, flat_map, Option}
use Rattle.std.specs.List.{enumerate_from}
use Rattle.std.specs.Option.{option_to_list}
use Rattle.omf_module.specs.declared.Start.{Start}
use Rattle.omf_module.specs.Module.{DataRecord, Module}
use Rattle.omf_image.specs.Records.{OfModule}

-- a data record of a module
abbrev pub DataEntry : Type 0
DataEntry = OfModule DataRecord

-- a start of a module
abbrev pub StartEntry : Type 0
StartEntry = OfModule Start

-- the data records of a module
abbrev pub module_entries : (input : ℕ) → Module → List DataEntry
module_entries input module' =
    map (λ d. record { input = input; module' = module'; item = d }) module'.data_records

-- those of modules whose inputs count up from a first one
abbrev pub entries_from : (input : ℕ) → List Module → List DataEntry
entries_from input modules = flat_map (λ m. module_entries m.0 m.1) (enumerate_from input modules)

-- the start of a module, if it has one
abbrev pub module_start : Option Start → (input : ℕ) → Module → List StartEntry
module_start start input module' =
    map (λ s. record { input = input; module' = module'; item = s }) (option_to_list start)

-- the starts of modules whose inputs count up from a first one
abbrev pub starts_from : (input : ℕ) → List Module → List StartEntry
starts_from input modules = flat_map (λ m. module_start m.1.start m.0 m.1) (enumerate_from input modules)
