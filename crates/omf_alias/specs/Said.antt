-- Aliases without where their names lie in memory.
use Rattle.omf_alias.specs.declared.aliases.Aliases.{Aliases}
use Rattle.omf_alias.specs.declared.aliases.OwnAliases.{OwnAliases}
use Rattle.omf_alias.specs.declared.renaming.Renaming as lent
use Rattle.omf_alias.specs.Layered.{both_said, said_of}
pub use Rattle.omf_alias.specs.Lent.{alias_said, aliases_said}
use Rattle.omf_alias.specs.Meaning.{Renaming}

abbrev pub renaming_said : lent.Renaming → Renaming
renaming_said r = both_said r.names r.aliases.now r.own.now

abbrev pub shared_said : {A : Type 0} → Aliases A → Renaming
shared_said a = said_of a.names a.aliases.items

abbrev pub own_said : {A : Type 0} → OwnAliases A → Renaming
own_said a = both_said a.names a.aliases.now a.own.items
