use Rattle.std.proofs.Common.{ap, ◌∙◌}
use Rattle.doslink_asked.specs.Folders.{folders_between_colons}
use Rattle.doslink_words.specs.Tokens.{texts}
use Rattle.doslink_asked.proofs.Texts.{flat-next}
use Rattle.doslink_asked.proofs.folders.all_folders.Goals as goal

pub loop-part-preserved : goal.loop-part-preserved
loop-part-preserved c =
    flat-next folders_between_colons _ c.loop-part.part-index _
    c.loop-part.folders.items c.extend_from_slice.new.self.items c.deref.result.now c.loop-part-test.true
    (ap texts c.deref.ensures.value ∙ c.in_ok-more.ensures) c.in_ok-extend_from_slice.ensures.items
    c.loop-part.invariant
