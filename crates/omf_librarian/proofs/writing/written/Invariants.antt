use Rattle.std.proofs.Common.{◌≡◌, ◌++◌, ◌/◌, ◌*◌, length, map, take}
use Rattle.omf_librarian.specs.Writing.{dictionary_place, header, members_bytes}
use Rattle.omf_librarian.specs.inside.Members.{bytes_in}
use Rattle.omf_librarian.proofs.writing.written.Given as goal

abbrev pub invariant-loop-module : goal.invariant-loop-module
invariant-loop-module g l =
    l.out.items
    ≡ header l.size l.place (length l.dictionary / 512)
    ++ members_bytes l.size (map bytes_in (take l.module-index l.modules))
