use Rattle.std.proofs.Common.{◌≡◌, drop}
use Rattle.omf_library.specs.Names.{texts}
use Rattle.omf_librarian.specs.Changing.{index_from}
use Rattle.omf_librarian.proofs.changing.index_of.Given as goal

abbrev pub invariant-loop-index : goal.invariant-loop-index
invariant-loop-index l =
    index_from l.index l.name (texts (drop l.index l.members)) ≡ index_from 0 l.name (texts l.members)
