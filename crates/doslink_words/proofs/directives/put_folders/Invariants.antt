use Rattle.std.proofs.Common.{◌≡◌, ◌++◌, take}
use Rattle.std.specs.List.{flat_map}
use Rattle.doslink_words.specs.Directives.{folders_in}
use Rattle.doslink_words.specs.Tokens.{texts}
use Rattle.doslink_words.proofs.directives.put_folders.Given as goal

abbrev pub invariant-loop-name : goal.invariant-loop-name
invariant-loop-name l =
    texts l.folders.items ≡ texts l.fn.folders.items ++ flat_map folders_in (texts (take l.name-index l.names))
