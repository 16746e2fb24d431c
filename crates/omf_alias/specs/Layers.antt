-- Aliases of all modules, and behind them those of one.
use Rattle.std.specs.Prelude.{List, ◌++◌, map}
use Rattle.std.specs.Option.{unwrap_or}
use Rattle.omf_alias.specs.Meaning.{Renaming, meaning}
use Rattle.omf_alias.specs.Reading.{Alias}

-- further aliases behind those of a renaming
abbrev pub with_own : Renaming → (own : List Alias) → Renaming
with_own r own = record { names = r.names; aliases = r.aliases ++ own }

-- an alias of what it means by a renaming; of its own name where it means nothing by that
abbrev pub through : Renaming → Alias → Alias
through r a = record { place = a.place; name = a.name; meaning = unwrap_or (meaning r a.meaning) a.name }

abbrev pub own_through : Renaming → (own : List Alias) → Renaming
own_through r own = record { names = r.names; aliases = map (through r) own }
