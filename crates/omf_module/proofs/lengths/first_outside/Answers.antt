use Rattle.std.proofs.Common.{refl, sym, ap, ◌∙◌, arith}
use Rattle.std.specs.Bool.{then_some}
use Rattle.std.proofs.lemmas.Option.{get_or_from_slice_get, slice_get_within}
use Rattle.omf_module.specs.Lengths.{is_outside}
use Rattle.omf_module.specs.Module.{DataRecord}
use Rattle.omf_module.specs.Seen.{data_seen}
use Rattle.omf_module.proofs.Lists.{first_here, first_later, first_of_none}
use Rattle.omf_module.proofs.lengths.first_outside.Goals as goal

pub loop-index-init : goal.loop-index-init
loop-index-init g c = refl

pub returns-then-is_outside : goal.returns-then-is_outside
returns-then-is_outside g c =
    let ss = c.args.store.now.segments in
    let ds = c.args.store.now.data_records in
    let told = λ (d : DataRecord). then_some (is_outside ss d) d.place in
    let i = c.loop-index.index in
    let x = data_seen c.data_record-data.result in
    first_here told ds i x (slice_get_within ds i x c.data_record-data.ensures.seen) x.place
    (ap told (get_or_from_slice_get ds i x x c.data_record-data.ensures.seen)
    ∙ ap (λ b. then_some b x.place) (sym c.is_outside.ensures ∙ c.if-is_outside.true)) c.loop-index.invariant

pub loop-index-preserved : goal.loop-index-preserved
loop-index-preserved g c =
    let ss = c.args.store.now.segments in
    let ds = c.args.store.now.data_records in
    let told = λ (d : DataRecord). then_some (is_outside ss d) d.place in
    let i = c.loop-index.index in
    let x = data_seen c.data_record-data.result in
    first_later told ds i x (slice_get_within ds i x c.data_record-data.ensures.seen)
    (ap told (get_or_from_slice_get ds i x x c.data_record-data.ensures.seen)
    ∙ ap (λ b. then_some b x.place) (sym c.is_outside.ensures ∙ c.if-is_outside.false)) c.loop-index.invariant

pub returns : goal.returns
returns g c =
    let ss = c.args.store.now.segments in
    let ds = c.args.store.now.data_records in
    let told = λ (d : DataRecord). then_some (is_outside ss d) d.place in
    first_of_none told ds c.loop-index.index (omega arith) c.loop-index.invariant
