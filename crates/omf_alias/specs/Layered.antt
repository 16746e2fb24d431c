-- Renamings by their parts: aliases, and further ones behind them.
use Rattle.std.specs.Prelude.{List, ◌++◌}
use Rattle.omf_place.specs.declared.names.Names.{Names}
use Rattle.omf_alias.specs.declared.reading.Alias.{Alias}
use Rattle.omf_alias.specs.Meaning.{Renaming}
use Rattle.omf_alias.specs.Lent.{aliases_said}

abbrev pub said_of : Names → List Alias → Renaming
said_of names aliases = record { names = names; aliases = aliases_said aliases }

abbrev pub both_said : Names → (aliases own : List Alias) → Renaming
both_said names aliases own = record { names = names; aliases = aliases_said aliases ++ aliases_said own }
