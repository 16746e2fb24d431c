use Rattle.std.proofs.Common.{◌++◌, List, map, take}
use Rattle.omf_library.specs.Names.{texts}
use Rattle.omf_librarian.specs.Naming.{Named}
use Rattle.omf_librarian.specs.inside.Names.{Noted, named_as}
use Rattle.omf_librarian.proofs.naming.Names.note_offered.Given as goal

abbrev pub invariant-loop-name : goal.invariant-loop-name
invariant-loop-name g l = (before : List Named) → Noted before l.initial.self
    → Noted (before ++ map (named_as l.member l.page) (texts (take l.name-index l.offered))) l.self
