-- What is sought of fix-ups.
use Rattle.std.specs.Prelude.{ℕ, List}
use Rattle.std.specs.declared.option.Option.{Option}
use Rattle.omf_module.specs.declared.ResolvedFixup.{ResolvedFixup}
use Rattle.omf_module.specs.Module.{Module}
use Rattle.omf_communal.specs.declared.far.Sought.{Sought}
use Rattle.omf_communal.specs.declared.far.Sought.TheVariants as sought
use Rattle.omf_communal.specs.Far.{base_name, offset_name}

abbrev pub name_at : Sought → Module → ResolvedFixup → Option (List ℕ)
name_at sought.Offset = offset_name
name_at sought.Base = base_name
