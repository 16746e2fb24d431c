use Rattle.std.proofs.Common.{◌≡◌, ◌≤◌, ◌++◌, List, map, take, drop}
use Rattle.omf_librarian.specs.Naming.{Named, all_named}
use Rattle.omf_librarian.specs.Pages.{page_behind}
use Rattle.omf_librarian.specs.inside.Members.{bytes_in}
use Rattle.omf_librarian.specs.inside.Names.{Noted}
use Rattle.omf_librarian.proofs.naming.names_of.Given as goal

abbrev pub invariant-loop-member : goal.invariant-loop-member
invariant-loop-member g l = record {
  before : List Named;
  fits : l.page ≤ 65535;
  noted : Noted before l.names;
  page : page_behind l.size l.page (map bytes_in (drop l.member l.modules))
      ≡ page_behind l.size 1 (map bytes_in l.modules);
  all : before ++ all_named l.size l.member l.page (map bytes_in (drop l.member l.modules))
      ≡ all_named l.size 0 1 (map bytes_in l.modules);
}
