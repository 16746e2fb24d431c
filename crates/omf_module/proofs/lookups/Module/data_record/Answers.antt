use Rattle.std.proofs.Common.{◌<◌, length, slice_get, sym, subst, ap, ◌∙◌}
use Rattle.omf_module.specs.Module.{Module}
use Rattle.omf_module.proofs.lookups.Module.data_record.Goals as goal

pub data_record-requires : goal.data_record-requires
data_record-requires g c = subst (λ (m : Module). c.args.index < length m.data_records) (sym c.self.view_is) c.requires

pub returns-clause-seen : goal.returns-clause-seen
returns-clause-seen g c =
    ap (λ (m : Module). slice_get m.data_records c.args.index) (sym c.self.view_is) ∙ c.data_record.ensures.seen
