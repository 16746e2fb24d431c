use Rattle.std.proofs.Common.{◌≡◌, ◌<◌, length, map, get_or, ap, ◌∙◌, arith}
use Rattle.std.specs.Vec.{with_items}
use Rattle.std.proofs.lemmas.List.{get_or_default, length-map, with_items_is}
use Rattle.std.proofs.lemmas.List.Elements.{All-from_recursion}
use Rattle.omf_module.specs.declared.entries.DataEntry.{DataEntry}
use Rattle.omf_module.specs.Grouped.{fixup_in, data_in}
use Rattle.omf_module.specs.inside.Store.{data_record, DataIsIn}
use Rattle.omf_module.proofs.InPlace.{seen_more, all_set}
use Rattle.omf_module.proofs.grouping.group_data.Goals as goal

pub loop-index-preserved : goal.loop-index-preserved
loop-index-preserved g c =
    let old = c.args.data_records.now in
    let now = c.loop-index.data_records in
    let i = c.loop-index.index in
    let read = c.index-data_records-index.result in
    let x = get_or now i read in
    let changed = fixup_in c.args.joined.now c.args.group x.segment in
    let new = c.group_fixups.new.fixups in
    let within : i < length old = omega arith in
    let within_now : i < length now = omega arith in
    let made : new ≡ map changed x.fixups.items = c.group_fixups.ensures ∙ ap (map changed) c.deref_mut.ensures.value in
    let fits : length new ≡ x.fixups.len =
    omega (
      arith,
      ap length c.group_fixups.ensures,
      length-map c.deref_mut.result.now changed,
      c.deref_mut.ensures.len,
    ) in
    let items : (with_items x.fixups new).items ≡ map changed x.fixups.items = with_items_is x.fixups new fits ∙ made in
    let written : DataEntry g.row.A.Denot =
    record {
      place = x.place;
      segment = x.segment;
      offset = x.offset;
      bytes = x.bytes;
      places_from = x.places_from;
      fixups = with_items x.fixups new;
    } in
    record {
      says =
          λ bytes places.
          seen_more (data_record bytes places) (data_in c.args.joined.now c.args.group) old now i x written within
          within_now (get_or_default now i read x within_now) (c.loop-index.invariant.says bytes places)
          (ap (λ fs. record (data_record bytes places x) { fixups = fs }) items);
      inside =
          λ bytes places h.
          let all = c.loop-index.invariant.inside bytes places h in
          all_set (DataIsIn bytes places) now i written all
          (All-from_recursion (DataIsIn bytes places) now all i read within_now);
    }
