use Rattle.std.proofs.Common.{◌≡◌, take}
use Rattle.std.specs.List.{flat_map}
use Rattle.doslink_words.specs.Tokens.{texts}
use Rattle.doslink_asked.specs.Folders.{folders_between_colons}
use Rattle.doslink_asked.proofs.folders.all_folders.Given as goal

abbrev pub invariant-loop-part : goal.invariant-loop-part
invariant-loop-part l =
    texts l.folders.items ≡ flat_map folders_between_colons (texts (take l.part-index l.part-items))
