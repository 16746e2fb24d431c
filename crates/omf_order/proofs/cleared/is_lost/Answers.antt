use Rattle.std.proofs.Common.{◌∙◌, ◌&&◌, ap, not, sym}
use Rattle.omf_module.specs.Seen.{segment_seen}
use Rattle.omf_order.specs.Cleared.{is_cleared}
use Rattle.omf_order.specs.inside.Held.{parts_view}
use Rattle.omf_order.proofs.Clearing.{zip_empty}
use Rattle.omf_order.proofs.cleared.is_lost.Goals as goal

pub returns-then-not-is_empty : goal.returns-then-not-is_empty
returns-then-not-is_empty g c = λ parts e.
    c.is_cleared.ensures parts e
    ∙ sym
    (ap (λ b. not b && is_cleared (parts_view parts) (segment_seen c.args.segment.now))
    (zip_empty c.args.stored.now.places.now c.args.stored.now.bytes.now c.requires
    ∙ sym c.is_empty.ensures ∙ c.if-not-is_empty.true))

pub returns-else-not-is_empty : goal.returns-else-not-is_empty
returns-else-not-is_empty g c = λ parts e.
    ap not c.if-not-is_empty.false
    ∙ sym
    (ap (λ b. not b && is_cleared (parts_view parts) (segment_seen c.args.segment.now))
    (zip_empty c.args.stored.now.places.now c.args.stored.now.bytes.now c.requires
    ∙ sym c.is_empty.ensures ∙ c.if-not-is_empty.false))
