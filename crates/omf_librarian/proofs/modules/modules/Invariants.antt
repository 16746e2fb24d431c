use Rattle.std.proofs.Common.{◌≡◌, drop, map}
use Rattle.omf_library.specs.Members.{joined}
use Rattle.omf_library.specs.Names.{texts}
use Rattle.omf_librarian.specs.Modules.{modules_from}
use Rattle.omf_librarian.specs.inside.Members.{bytes_in}
use Rattle.omf_librarian.proofs.modules.modules.Given as goal

abbrev pub invariant-loop-member : goal.invariant-loop-member
invariant-loop-member g l =
    joined (map bytes_in l.modules.items) (modules_from l.member (texts (drop l.member l.members)))
    ≡ modules_from 0 (texts l.members)
