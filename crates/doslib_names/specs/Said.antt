-- What the code's values say, without where they lie in memory.
use Rattle.omf_library.specs.Members.{plain_member}
use Rattle.doslib_names.specs.declared.held.Held as lent
use Rattle.doslib_names.specs.Names.{Held}

-- a module
abbrev pub held_said : lent.Held → Held
held_said h = record { path = h.path.now; kind = h.kind; member = plain_member h.member }
