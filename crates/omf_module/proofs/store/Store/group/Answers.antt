use Rattle.std.proofs.Common.{ap}
use Rattle.omf_module.specs.inside.Store.{Kept, group, GroupIsIn, IsConsistent}
use Rattle.omf_module.proofs.Stored.{said_at}
use Rattle.omf_module.proofs.store.Store.group.Goals as goal

pub lend-requires : goal.lend-requires
unfolding IsConsistent
lend-requires g c =
    let said =
    said_at (group c.self.inside.bytes.items) (GroupIsIn c.self.inside.bytes.items) c.self.inside.groups.items
    c.args.index c.index-group.result.now (ap (λ (k : Kept). k.groups) c.self.view_is) c.self.invariant.0.groups
    c.requires c.index-group.ensures in
    rw c.deref.ensures.value said.1

pub returns : goal.returns
unfolding IsConsistent
returns g c =
    let said =
    said_at (group c.self.inside.bytes.items) (GroupIsIn c.self.inside.bytes.items) c.self.inside.groups.items
    c.args.index c.index-group.result.now (ap (λ (k : Kept). k.groups) c.self.view_is) c.self.invariant.0.groups
    c.requires c.index-group.ensures in
    rw (c.lend.ensures, c.deref.ensures.value, c.as_slice.ensures.value) said.0
