use Rattle.std.proofs.Common.{◌≡◌, ◌++◌, drop}
use Rattle.doslink_words.specs.inside.Ordered.{ordered}
use Rattle.doslink_words.specs.Named.{in_order}
use Rattle.doslink_words.specs.Said.{inputs_of}
use Rattle.doslink_words.specs.Tokens.{texts}
use Rattle.doslink_words.proofs.named.in_order.Given as goal

abbrev pub invariant-kinds : goal.invariant-kinds
invariant-kinds l =
    in_order l.fn.kinds (texts l.fn.files) (texts l.fn.libraries)
    ≡ inputs_of l.inputs.items ++ ordered (drop l.kind-index l.kinds) l.left
