-- A public as the code has it.
use Rattle.std.specs.Prelude.{List, map}
use Rattle.link_map.specs.declared.public.ListedPublic.{ListedPublic}
use Rattle.link_map.specs.Public.{Public}

-- its name, where it stands, and whether it is absolute
abbrev pub seen : ListedPublic → Public
seen listed =
    record { name = listed.name.now; frame = listed.frame; offset = listed.offset; is_absolute = listed.is_absolute }

-- all of them
abbrev pub all_seen : List ListedPublic → List Public
all_seen listed = map seen listed
