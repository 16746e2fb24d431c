use Rattle.std.proofs.Common.{◌≡◌, sym, subst, rules}
use Rattle.omf_module.specs.Module.{Module}
use Rattle.omf_module.specs.Joined.{joined}
use Rattle.omf_module.specs.Sound.{IsSound}
use Rattle.omf_module.proofs.JoinedSound.{sound_joined}
use Rattle.omf_module.proofs.declarations.with_declarations.Goals as goal

pub from_parts-requires : goal.from_parts-requires
from_parts-requires g c =
    let store = c.join_publics.new.store in
    let given : Module =
    record {
      segments = store.segments;
      groups = store.groups;
      externals = store.externals;
      publics = store.publics;
      data_records = store.data_records;
      start = c.into_parts-store.result.1;
    } in
    let same : given ≡ joined c.args.module c.args.more.now = search rules in
    subst IsSound (sym same) (sound_joined c.args.module c.args.more.now c.into_parts-store.ensures.sound
    c.promises.ensures)
