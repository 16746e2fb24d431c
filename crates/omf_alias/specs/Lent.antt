-- Aliases without where their names lie in memory.
use Rattle.std.specs.Prelude.{List, map}
use Rattle.omf_alias.specs.declared.reading.Alias as lent
use Rattle.omf_alias.specs.Reading.{Alias}

abbrev pub alias_said : lent.Alias → Alias
alias_said a = record { place = a.place; name = a.name.now; meaning = a.meaning.now }

abbrev pub aliases_said : List lent.Alias → List Alias
aliases_said aliases = map alias_said aliases
