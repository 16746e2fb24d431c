use Rattle.std.proofs.Common.{arith, refl}
use Rattle.command_line.proofs.Lists.{made_next}
use Rattle.doslink_words.specs.Said.{Class, item_of}
use Rattle.doslink_words.proofs.words.classes_of.Goals as goal

pub names-preserved : goal.names-preserved
names-preserved c =
    made_next item_of Class (λ s. s.now) c.args.names.now c.names.classes.items c.push.new.self.items c.names.name-index
    _ _ (omega arith) c.in_ok-push.ensures.items refl c.names.invariant
