-- The names that are defined in a link, as they are held.
use Rattle.std.specs.Prelude.{Bool, ℕ, List, ◌++◌, map}
use Rattle.omf_alias.specs.declared.named.NamedValue.{NamedValue}
use Rattle.omf_search.specs.Said.{Module}

-- the names that a module defines or needs
abbrev pub defined_names : Module → List (List ℕ)
defined_names m = m.offered ++ (m.communals ++ m.wanted)

-- names without where they lie in memory
abbrev pub names_held : List (NamedValue Bool) → List (List ℕ)
names_held values = map (λ v. v.name.now) values
