-- What calls take and answer, as the definitions say it.
use Rattle.std.specs.Prelude.{ℕ, List, map}
use Rattle.std.specs.Borrow.{Bor}
use Rattle.omf_library.specs.declared.names.ModuleNames.{ModuleNames}
use Rattle.omf_library.specs.Said.{aliases_said}
use Rattle.omf_search.specs.declared.likeness.Offered as offered
use Rattle.omf_search.specs.declared.said.Member as member
use Rattle.omf_search.specs.declared.said.Said.{Said}
use Rattle.omf_search.specs.declared.said.Wanted as wanted
use Rattle.omf_search.specs.Likeness.{Offered}
use Rattle.omf_search.specs.Said.{Module, Wanted}
use Rattle.omf_search.specs.Search.{Member}

-- names as their bytes
abbrev pub bytes_of : List (Bor (List ℕ)) → List (List ℕ)
bytes_of names = map (λ n. n.now) names

-- what a module says of names
abbrev pub module_said : Said → Module
module_said m = record {
  wanted = bytes_of m.wanted.now;
  externals = bytes_of m.externals.now;
  offered = bytes_of m.offered.now;
  communals = bytes_of m.communals.now;
  aliases = aliases_said m.aliases.now;
}

-- the same, of the names as they were read
abbrev pub names_said : {A : Type 0} → ModuleNames A → Module
names_said m = record {
  wanted = bytes_of m.wanted.items;
  externals = bytes_of m.externals.items;
  offered = bytes_of m.offered.items;
  communals = bytes_of m.communals.items;
  aliases = aliases_said m.aliases.items;
}

-- the same once no more members are looked for: of the wanted names those that are needed
abbrev pub needs_said : {A : Type 0} → ModuleNames A → Module
needs_said m = record {
  wanted = bytes_of m.needed.items;
  externals = bytes_of m.externals.items;
  offered = bytes_of m.offered.items;
  communals = bytes_of m.communals.items;
  aliases = aliases_said m.aliases.items;
}

-- a wanted name
abbrev pub wanted_said : wanted.Wanted → Wanted
wanted_said w = record { name = w.name.now; wanted_by = w.wanted_by }

-- a member of a library
abbrev pub member_said : member.Member → Member
member_said b = record { library = b.library; member = b.member; says = module_said b.says }

-- an offered name
abbrev pub offered_said : offered.Offered → Offered
offered_said o = record { name = o.name.now; whose = o.whose }
