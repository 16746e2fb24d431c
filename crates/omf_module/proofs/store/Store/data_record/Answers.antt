use Rattle.std.proofs.Common.{ap, sym, ◌∙◌}
use Rattle.omf_module.specs.inside.Store.{Kept, data_record, places_piece, DataIsIn, IsConsistent}
use Rattle.omf_module.proofs.Stored.{length_elements, said_at}
use Rattle.omf_module.proofs.store.Store.data_record.Goals as goal

pub lend-requires : goal.lend-requires
unfolding IsConsistent
lend-requires g c =
    let data' =
    said_at (data_record c.self.inside.bytes.items c.self.inside.places.items)
    (DataIsIn c.self.inside.bytes.items c.self.inside.places.items) c.self.inside.data_records.items c.args.index
    c.index-data.result.now (ap (λ (k : Kept). k.data_records) c.self.view_is) c.self.invariant.0.data_records
    c.requires c.index-data.ensures in
    rw c.deref.ensures.value data'.1.0

pub lend-requires-2 : goal.lend-requires-2
unfolding IsConsistent
lend-requires-2 g c =
    let data' =
    said_at (data_record c.self.inside.bytes.items c.self.inside.places.items)
    (DataIsIn c.self.inside.bytes.items c.self.inside.places.items) c.self.inside.data_records.items c.args.index
    c.index-data.result.now (ap (λ (k : Kept). k.data_records) c.self.view_is) c.self.invariant.0.data_records
    c.requires c.index-data.ensures in
    rw (c.places.ensures, c.deref-2.ensures.value) data'.1.1

pub returns-clause-seen : goal.returns-clause-seen
unfolding IsConsistent
returns-clause-seen g c =
    let data' =
    said_at (data_record c.self.inside.bytes.items c.self.inside.places.items)
    (DataIsIn c.self.inside.bytes.items c.self.inside.places.items) c.self.inside.data_records.items c.args.index
    c.index-data.result.now (ap (λ (k : Kept). k.data_records) c.self.view_is) c.self.invariant.0.data_records
    c.requires c.index-data.ensures in
    rw (c.lend.ensures, c.deref.ensures.value, c.lend-2.ensures, c.places.ensures, c.deref-2.ensures.value, c.as_slice.ensures.value) data'.0

pub returns-clause-lengths : goal.returns-clause-lengths
unfolding IsConsistent
returns-clause-lengths g c =
    let data' =
    said_at (data_record c.self.inside.bytes.items c.self.inside.places.items)
    (DataIsIn c.self.inside.bytes.items c.self.inside.places.items) c.self.inside.data_records.items c.args.index
    c.index-data.result.now (ap (λ (k : Kept). k.data_records) c.self.view_is) c.self.invariant.0.data_records
    c.requires c.index-data.ensures in
    rw (c.lend.ensures, c.deref.ensures.value, c.lend-2.ensures, c.places.ensures, c.deref-2.ensures.value)
    (length_elements c.self.inside.bytes.items c.index-data.result.now.bytes data'.1.0
    ∙ sym (length_elements c.self.inside.places.items (places_piece c.index-data.result.now) data'.1.1))
