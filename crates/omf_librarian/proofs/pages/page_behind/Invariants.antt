use Rattle.std.proofs.Common.{◌≡◌, ◌≤◌, drop, map}
use Rattle.omf_librarian.specs.Pages.{page_behind}
use Rattle.omf_librarian.specs.inside.Members.{bytes_in}
use Rattle.omf_librarian.proofs.pages.page_behind.Given as goal

abbrev pub invariant-loop-module : goal.invariant-loop-module
invariant-loop-module g l = record {
  fits : l.page ≤ 65535;
  same : page_behind l.size l.page (map bytes_in (drop l.module-index l.modules))
      ≡ page_behind l.size 1 (map bytes_in l.modules);
}
