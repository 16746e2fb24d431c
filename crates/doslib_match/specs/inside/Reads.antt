-- What reading a member answers.
use Rattle.std.specs.Prelude.{ℕ, List, Ok, Err}
use Rattle.std.specs.declared.result.Result.{Result}
use Rattle.omf_module.specs.Module.{Module}
use Rattle.omf_plain.specs.declared.fault.PlainModuleFault.{PlainModuleFault}
use Rattle.omf_plain.specs.declared.fault.PlainModuleFault.TheVariants.{Memory, Record}
use Rattle.doslib_match.specs.Reading.{IsReadAs}

-- the module, or why there is none, unless memory runs out
abbrev pub Reads : (bytes : List ℕ) → Result Module PlainModuleFault → Type 0
Reads bytes (Ok one) = IsReadAs bytes (Ok one)
Reads bytes (Err Memory) = Unit {0}
Reads bytes (Err (Record place obstacle)) = IsReadAs bytes (Err (place, obstacle))
