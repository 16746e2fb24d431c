-- What stands behind what is in order already.
use Rattle.std.specs.Prelude.{List}
use Rattle.doslink_words.specs.declared.named.Kind.{Kind}
use Rattle.doslink_words.specs.declared.named.Left.{Left}
use Rattle.doslink_words.specs.Named.{in_order}
use Rattle.doslink_words.specs.Said.{SaidInput}
use Rattle.doslink_words.specs.Tokens.{texts}

-- the files and libraries that are left, in the order of these kinds
abbrev pub ordered : List Kind → Left → List SaidInput
ordered kinds left = in_order kinds (texts left.files.now) (texts left.libraries.now)
