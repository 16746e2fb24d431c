use Rattle.std.proofs.Common.{◌<◌, length, slice_get, sym, subst, ap, ◌∙◌}
use Rattle.omf_module.specs.Module.{Module}
use Rattle.omf_module.proofs.lookups.Module.public_symbol.Goals as goal

pub public_symbol-requires : goal.public_symbol-requires
public_symbol-requires g c = subst (λ (m : Module). c.args.index < length m.publics) (sym c.self.view_is) c.requires

pub returns : goal.returns
returns g c = ap (λ (m : Module). slice_get m.publics c.args.index) (sym c.self.view_is) ∙ c.public_symbol.ensures
