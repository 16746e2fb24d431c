use Rattle.std.proofs.Common.{◌≡◌, sym, subst, rules}
use Rattle.omf_module.specs.Module.{Module}
use Rattle.omf_module.specs.Defaulted.{defaulted}
use Rattle.omf_module.specs.Sound.{IsSound}
use Rattle.omf_module.proofs.DefaultedSound.{sound_defaulted}
use Rattle.omf_module.proofs.defaulting.redirect_externals.Goals as goal

pub from_parts-requires : goal.from_parts-requires
from_parts-requires g c =
    let store = c.redirect_externals.new.self in
    let given : Module =
    record {
      segments = store.segments;
      groups = store.groups;
      externals = store.externals;
      publics = store.publics;
      data_records = store.data_records;
      start = c.map-start.result;
    } in
    let same : given ≡ defaulted c.args.meanings.now c.args.module = search rules in
    subst IsSound (sym same)
    (sound_defaulted c.args.meanings.now c.args.module c.into_parts-store.ensures.sound c.requires)
