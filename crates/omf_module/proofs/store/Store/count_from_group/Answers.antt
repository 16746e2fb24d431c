use Rattle.std.proofs.Common.{map, ap, arith}
use Rattle.omf_module.specs.Grouped.{public_in, data_in}
use Rattle.omf_module.specs.inside.Store.{Kept, IsConsistent, public_symbol, data_record, PublicIsIn, DataIsIn}
use Rattle.omf_module.proofs.InPlace.{seen_written, all_written}
use Rattle.omf_module.proofs.store.Store.count_from_group.Goals as goal

pub invariant_of-self : goal.invariant_of-self
unfolding IsConsistent
invariant_of-self g c =
    let bytes = c.self.inside.bytes.items in
    let places = c.self.inside.places.items in
    let h = c.self.invariant.0 in (
      record {
        names = h.names;
        segments = h.segments;
        groups = h.groups;
        externals = h.externals;
        publics =
            all_written c.self.inside.publics c.deref_mut.result.now c.group_publics.new.publics
            c.deref_mut.ensures.value (omega (arith, c.group_publics.auto.publics, c.deref_mut.ensures.len))
            (PublicIsIn bytes) (c.group_publics.ensures.inside bytes) h.publics;
        data_records =
            all_written c.self.inside.data_records c.deref_mut-2.result.now c.group_data.new.data_records
            c.deref_mut-2.ensures.value (omega (arith, c.group_data.auto.data_records, c.deref_mut-2.ensures.len))
            (DataIsIn bytes places) (c.group_data.ensures.inside bytes places) h.data_records;
      },
      c.self.invariant.1,
    )

pub returns : goal.returns
unfolding IsConsistent
returns g c =
    let bytes = c.self.inside.bytes.items in
    let places = c.self.inside.places.items in
    let publics_are =
    seen_written c.self.inside.publics c.deref_mut.result.now c.group_publics.new.publics
    c.deref_mut.ensures.value (omega (arith, c.group_publics.auto.publics, c.deref_mut.ensures.len))
    (public_symbol bytes) (public_in c.args.joined.now c.args.group) (c.group_publics.ensures.says bytes) in
    let data_is =
    seen_written c.self.inside.data_records c.deref_mut-2.result.now c.group_data.new.data_records
    c.deref_mut-2.ensures.value (omega (arith, c.group_data.auto.data_records, c.deref_mut-2.ensures.len))
    (data_record bytes places) (data_in c.args.joined.now c.args.group) (c.group_data.ensures.says bytes places) in
    rw (publics_are, data_is) (ap (λ (k : Kept). record k {
      publics = map (public_in c.args.joined.now c.args.group) k.publics;
      data_records = map (data_in c.args.joined.now c.args.group) k.data_records;
    }) c.self.view_is)
