use Rattle.std.proofs.Common.{Bool, ap₂, sym, ◌∙◌}
use Rattle.omf_place.specs.declared.names.Names.{Names}
use Rattle.doslink_stock.specs.Seen.{handed_held}
use Rattle.doslink_words.specs.declared.job.Job.{Job}
use Rattle.doslink_words.specs.Said.{order_of}
use Rattle.doslink_passes.specs.Orders.{Asking}
use Rattle.doslink_passes.proofs.Lists.{any-map}
use Rattle.doslink_passes.proofs.ordering.asked_by.Goals as goal

-- what asks for the order of a job's modules, where these names agree and a module asks for DOSSEG or none does
abbrev asking_with : Job → (marks : Bool) → Names → (dosseg : Bool) → Asking
asking_with job marks names dosseg = record {
  names = names;
  marks = marks;
  dosseg = dosseg;
  order = order_of job.order;
  null_bytes = job.null_bytes;
}

pub returns : goal.returns
returns g c =
    ap₂ (asking_with c.args.request.now.job.now c.args.request.now.marks) c.names.ensures
    (c.asks_dosseg.ensures ∙ sym (any-map (λ m. m.dosseg) handed_held c.args.request.now.handed.now))
