use Rattle.std.proofs.Common.{◌≡◌, ◌++◌, map, take}
use Rattle.doslink_words.specs.Said.{File, inputs_of}
use Rattle.doslink_words.specs.Tokens.{texts}
use Rattle.doslink_words.proofs.named.put_files.Given as goal

abbrev pub invariant-files : goal.invariant-files
invariant-files l =
    inputs_of l.inputs.items ≡ inputs_of l.fn.inputs.items ++ map File (texts (take l.file-index l.files))
