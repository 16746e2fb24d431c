-- How members of files are read as modules: with what each record says as one of the fourteen that are linked.
use Rattle.std.specs.Prelude.{ℕ, false, List, [], Ok, Err}
use Rattle.std.specs.declared.result.Result.{Result}
use Rattle.omf_module.specs.Module.{Module}
use Rattle.omf_place.specs.declared.names.Names.TheVariants.{Exact}
use Rattle.omf_plain.specs.declared.fault.RecordObstacle.{RecordObstacle}
use Rattle.omf_plain.specs.declared.widths.Widths.{Widths}
use Rattle.omf_plain.specs.Modules.{IsPlainFault, IsPlainModule}
use Rattle.omf_plain.specs.Plain.{Taking}

-- without what debuggers read, and each name means itself
abbrev pub as_it_stands : Taking
as_it_stands = record {
  keep_debug = false;
  renaming = record { names = Exact; aliases = [] };
  comdats = [];
}

-- why bytes are no module: the place of the first record that isn't taken, and what is in the way of it
abbrev pub Refusal : Type 0
Refusal = ℕ × RecordObstacle

-- bytes begin with this module, or with none for this reason
abbrev pub IsReadAs : (bytes : List ℕ) → Result Module Refusal → Type 0
IsReadAs bytes (Ok one) = (w : Widths) × IsPlainModule as_it_stands bytes one w
IsReadAs bytes (Err refusal) = IsPlainFault as_it_stands bytes refusal.0 refusal.1
