use Rattle.std.proofs.Common.{◌<◌, length, slice_get, sym, subst, ap, ◌∙◌}
use Rattle.omf_module.specs.Module.{Module}
use Rattle.omf_module.proofs.lookups.Module.segment.Goals as goal

pub segment-requires : goal.segment-requires
segment-requires g c = subst (λ (m : Module). c.args.index < length m.segments) (sym c.self.view_is) c.requires

pub returns : goal.returns
returns g c = ap (λ (m : Module). slice_get m.segments c.args.index) (sym c.self.view_is) ∙ c.segment.ensures
