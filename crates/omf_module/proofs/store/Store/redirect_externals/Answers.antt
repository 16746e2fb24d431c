use Rattle.std.proofs.Common.{map, ap, arith}
use Rattle.omf_module.specs.Defaulted.{data_in}
use Rattle.omf_module.specs.inside.Store.{Kept, data_record, DataIsIn, IsConsistent}
use Rattle.omf_module.proofs.InPlace.{seen_written, all_written}
use Rattle.omf_module.proofs.store.Store.redirect_externals.Goals as goal

pub invariant_of-self : goal.invariant_of-self
unfolding IsConsistent
invariant_of-self g c =
    let bytes = c.self.inside.bytes.items in
    let places = c.self.inside.places.items in
    let h = c.self.invariant.0 in (
      record {
        names = h.names;
        segments = h.segments;
        groups = h.groups;
        externals = h.externals;
        publics = h.publics;
        data_records =
            all_written c.self.inside.data_records c.deref_mut.result.now c.redirect_data.new.data_records
            c.deref_mut.ensures.value (omega (arith, c.redirect_data.auto.data_records, c.deref_mut.ensures.len))
            (DataIsIn bytes places) (c.redirect_data.ensures.inside bytes places) h.data_records;
      },
      c.self.invariant.1,
    )

pub returns : goal.returns
unfolding IsConsistent
returns g c =
    let bytes = c.self.inside.bytes.items in
    let places = c.self.inside.places.items in
    let data_is =
    seen_written c.self.inside.data_records c.deref_mut.result.now c.redirect_data.new.data_records
    c.deref_mut.ensures.value (omega (arith, c.redirect_data.auto.data_records, c.deref_mut.ensures.len))
    (data_record bytes places) (data_in c.args.meanings.now) (c.redirect_data.ensures.says bytes places) in
    rw data_is (ap (λ (k : Kept). record k { data_records = map (data_in c.args.meanings.now) k.data_records })
    c.self.view_is)
