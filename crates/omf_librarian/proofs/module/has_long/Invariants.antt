use Rattle.std.proofs.Common.{◌≡◌, drop}
use Rattle.std.specs.List.{list_any}
use Rattle.omf_library.specs.Names.{texts}
use Rattle.omf_librarian.specs.Modules.{is_long}
use Rattle.omf_librarian.proofs.module.has_long.Given as goal

abbrev pub invariant-loop-name : goal.invariant-loop-name
invariant-loop-name l =
    list_any is_long (texts (drop l.name-index l.names)) ≡ list_any is_long (texts l.names)
