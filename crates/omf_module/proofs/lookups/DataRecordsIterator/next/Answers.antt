use Rattle.std.proofs.Common.{sym, ◌∙◌}
use Rattle.omf_module.specs.Seen.{data_seen}
use Rattle.omf_module.proofs.Lists.{drop_at_some}
use Rattle.omf_module.proofs.lookups.DataRecordsIterator.next.Goals as goal

pub returns-then-self-data_record_count-clause-steps : goal.returns-then-self-data_record_count-clause-steps
returns-then-self-data_record_count-clause-steps g c = (
  sym c.self.view_is
      ∙ drop_at_some c.self.inside.«module».now.data_records c.self.inside.next (data_seen c.data_record-item.result)
      c.data_record-item.ensures.seen,
  c.data_record-item.ensures.lengths,
)
