use Rattle.std.proofs.Common.{◌≡◌, None, sym, subst, rules}
use Rattle.omf_module.specs.Module.{Module}
use Rattle.omf_module.specs.Sound.{IsSound}
use Rattle.omf_module.proofs.starting.without_start.Goals as goal

pub from_parts-requires : goal.from_parts-requires
from_parts-requires g c =
    let store = c.into_parts-store.result.0 in
    let given : Module =
    record {
      segments = store.segments;
      groups = store.groups;
      externals = store.externals;
      publics = store.publics;
      data_records = store.data_records;
      start = None;
    } in
    let same : given ≡ record c.args.module { start = None } = search rules in
    let sound = c.into_parts-store.ensures.sound in
    subst IsSound (sym same)
    (record {
      segments = sound.segments;
      groups = sound.groups;
      externals = sound.externals;
      publics = sound.publics;
      data_records = sound.data_records;
      start = tt;
    })
