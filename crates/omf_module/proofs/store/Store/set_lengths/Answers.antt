use Rattle.std.proofs.Common.{map, ap, sym, subst, arith}
use Rattle.std.specs.List.{AllByRecursion, enumerate_from}
use Rattle.omf_module.specs.Lengths.{with_length}
use Rattle.omf_module.specs.Sound.{SegmentFits}
use Rattle.omf_module.specs.inside.Store.{Kept, segment, SegmentIsIn, IsConsistent}
use Rattle.omf_module.proofs.Written.{seen_as, all_seen}
use Rattle.omf_module.proofs.InPlace.{all_written}
use Rattle.omf_module.proofs.store.Store.set_lengths.Goals as goal

pub invariant_of-self : goal.invariant_of-self
unfolding IsConsistent
invariant_of-self g c =
    let bytes = c.self.inside.bytes.items in
    let h = c.self.invariant.0 in (
      record {
        names = h.names;
        segments =
            all_written c.self.inside.segments c.deref_mut.result.now c.set_lengths.new.segments
            c.deref_mut.ensures.value (omega (arith, c.set_lengths.auto.segments, c.deref_mut.ensures.len))
            (SegmentIsIn bytes) (c.set_lengths.ensures.inside bytes) h.segments;
        groups = h.groups;
        externals = h.externals;
        publics = h.publics;
        data_records = h.data_records;
      },
      c.self.invariant.1,
    )

pub returns-clause-says : goal.returns-clause-says
unfolding IsConsistent
returns-clause-says g c =
    let bytes = c.self.inside.bytes.items in
    let segments_are =
    seen_as c.self.inside.segments c.deref_mut.result.now c.set_lengths.new.segments c.deref_mut.ensures.value
    (omega (arith, c.set_lengths.auto.segments, c.deref_mut.ensures.len)) (segment bytes)
    (λ vs. map (with_length c.args.lengths.now) (enumerate_from 0 vs)) (c.set_lengths.ensures.says bytes) in
    rw segments_are
    (ap (λ (k : Kept). record k {
      segments = map (with_length c.args.lengths.now) (enumerate_from 0 k.segments);
    }) c.self.view_is)

pub returns-clause-fits : goal.returns-clause-fits
unfolding IsConsistent
returns-clause-fits g c = λ h.
    let bytes = c.self.inside.bytes.items in
    all_seen c.self.inside.segments c.deref_mut.result.now c.set_lengths.new.segments c.deref_mut.ensures.value
    (omega (arith, c.set_lengths.auto.segments, c.deref_mut.ensures.len)) (segment bytes) SegmentFits
    (c.set_lengths.ensures.fits bytes) (subst (λ (k : Kept). AllByRecursion SegmentFits k.segments) (sym c.self.view_is) h)
