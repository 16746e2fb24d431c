use Rattle.std.proofs.Common.{◌<◌, length, slice_get, sym, subst, ap, ◌∙◌}
use Rattle.omf_module.specs.Module.{Module}
use Rattle.omf_module.proofs.lookups.Module.group.Goals as goal

pub group-requires : goal.group-requires
group-requires g c = subst (λ (m : Module). c.args.index < length m.groups) (sym c.self.view_is) c.requires

pub returns : goal.returns
returns g c = ap (λ (m : Module). slice_get m.groups c.args.index) (sym c.self.view_is) ∙ c.group.ensures
