use Rattle.std.proofs.Common.{ap}
use Rattle.omf_module.specs.inside.Store.{Kept, external, ExternalIsIn, IsConsistent}
use Rattle.omf_module.proofs.Stored.{said_at}
use Rattle.omf_module.proofs.store.Store.external.Goals as goal

pub lend-requires : goal.lend-requires
unfolding IsConsistent
lend-requires g c =
    let said =
    said_at (external c.self.inside.bytes.items) (ExternalIsIn c.self.inside.bytes.items) c.self.inside.externals.items
    c.args.index c.index-external.result.now (ap (λ (k : Kept). k.externals) c.self.view_is)
    c.self.invariant.0.externals c.requires c.index-external.ensures in
    rw c.deref.ensures.value said.1

pub returns : goal.returns
unfolding IsConsistent
returns g c =
    let said =
    said_at (external c.self.inside.bytes.items) (ExternalIsIn c.self.inside.bytes.items) c.self.inside.externals.items
    c.args.index c.index-external.result.now (ap (λ (k : Kept). k.externals) c.self.view_is)
    c.self.invariant.0.externals c.requires c.index-external.ensures in
    rw (c.lend.ensures, c.deref.ensures.value) said.0
