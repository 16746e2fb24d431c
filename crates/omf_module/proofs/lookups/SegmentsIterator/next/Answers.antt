use Rattle.std.proofs.Common.{sym, ◌∙◌}
use Rattle.omf_module.specs.Seen.{segment_seen}
use Rattle.omf_module.proofs.Lists.{drop_at_some}
use Rattle.omf_module.proofs.lookups.SegmentsIterator.next.Goals as goal

pub returns-then-self-segment_count-clause-steps : goal.returns-then-self-segment_count-clause-steps
returns-then-self-segment_count-clause-steps g c =
    sym c.self.view_is
    ∙ drop_at_some c.self.inside.«module».now.segments c.self.inside.next (segment_seen c.segment-item.result)
    c.segment-item.ensures
