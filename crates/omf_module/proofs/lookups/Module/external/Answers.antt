use Rattle.std.proofs.Common.{◌<◌, length, slice_get, sym, subst, ap, ◌∙◌}
use Rattle.omf_module.specs.Module.{Module}
use Rattle.omf_module.proofs.lookups.Module.external.Goals as goal

pub external-requires : goal.external-requires
external-requires g c = subst (λ (m : Module). c.args.index < length m.externals) (sym c.self.view_is) c.requires

pub returns : goal.returns
returns g c = ap (λ (m : Module). slice_get m.externals c.args.index) (sym c.self.view_is) ∙ c.external.ensures
