use Rattle.std.proofs.Common.{◌≡◌, ◌++◌, map, take}
use Rattle.doslink_words.specs.Said.{Library, inputs_of}
use Rattle.doslink_words.specs.Tokens.{texts}
use Rattle.doslink_words.proofs.named.put_libraries.Given as goal

abbrev pub invariant-libraries : goal.invariant-libraries
invariant-libraries l =
    inputs_of l.inputs.items ≡ inputs_of l.fn.inputs.items ++ map Library (texts (take l.library-index l.libraries))
