use Rattle.std.proofs.Common.{ap}
use Rattle.omf_module.specs.inside.Store.{Kept, segment, SegmentIsIn, IsConsistent}
use Rattle.omf_module.proofs.Stored.{said_at}
use Rattle.omf_module.proofs.store.Store.segment.Goals as goal

pub lend-requires : goal.lend-requires
unfolding IsConsistent
lend-requires g c =
    let said =
    said_at (segment c.self.inside.bytes.items) (SegmentIsIn c.self.inside.bytes.items) c.self.inside.segments.items
    c.args.index c.index-segment.result.now (ap (λ (k : Kept). k.segments) c.self.view_is) c.self.invariant.0.segments
    c.requires c.index-segment.ensures in
    rw c.deref.ensures.value said.1.0

pub lend-requires-2 : goal.lend-requires-2
unfolding IsConsistent
lend-requires-2 g c =
    let said =
    said_at (segment c.self.inside.bytes.items) (SegmentIsIn c.self.inside.bytes.items) c.self.inside.segments.items
    c.args.index c.index-segment.result.now (ap (λ (k : Kept). k.segments) c.self.view_is) c.self.invariant.0.segments
    c.requires c.index-segment.ensures in
    rw c.deref-2.ensures.value said.1.1

pub returns : goal.returns
unfolding IsConsistent
returns g c =
    let said =
    said_at (segment c.self.inside.bytes.items) (SegmentIsIn c.self.inside.bytes.items) c.self.inside.segments.items
    c.args.index c.index-segment.result.now (ap (λ (k : Kept). k.segments) c.self.view_is) c.self.invariant.0.segments
    c.requires c.index-segment.ensures in
    rw (c.lend.ensures, c.deref.ensures.value, c.lend-2.ensures, c.deref-2.ensures.value, c.bytes.ensures) said.0
