use Rattle.std.proofs.Common.{ap}
use Rattle.omf_module.specs.inside.Store.{Kept, public_symbol, PublicIsIn, IsConsistent}
use Rattle.omf_module.proofs.Stored.{said_at}
use Rattle.omf_module.proofs.store.Store.public_symbol.Goals as goal

pub lend-requires : goal.lend-requires
unfolding IsConsistent
lend-requires g c =
    let said =
    said_at (public_symbol c.self.inside.bytes.items) (PublicIsIn c.self.inside.bytes.items) c.self.inside.publics.items
    c.args.index c.index-public.result.now (ap (λ (k : Kept). k.publics) c.self.view_is) c.self.invariant.0.publics
    c.requires c.index-public.ensures in
    rw c.deref.ensures.value said.1

pub returns : goal.returns
unfolding IsConsistent
returns g c =
    let said =
    said_at (public_symbol c.self.inside.bytes.items) (PublicIsIn c.self.inside.bytes.items) c.self.inside.publics.items
    c.args.index c.index-public.result.now (ap (λ (k : Kept). k.publics) c.self.view_is) c.self.invariant.0.publics
    c.requires c.index-public.ensures in
    rw (c.lend.ensures, c.deref.ensures.value) said.0
