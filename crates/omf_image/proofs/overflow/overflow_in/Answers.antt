use Rattle.std.proofs.Common.{◌+◌, ◌∙◌, arith, drop, sym, []}
use Rattle.std.proofs.Common.{◌∷◌}
use Rattle.omf_module.specs.Seen.{data_seen}
use Rattle.omf_image.specs.Overflow.{entry_overflow}
use Rattle.omf_image.specs.inside.Entries.{module_entries}
use Rattle.omf_image.specs.inside.Ready.{IsEntryReady}
use Rattle.omf_image.proofs.Listing.{entry_of, all_at, entry_next}
use Rattle.omf_image.proofs.Overflowing.{found_at, found_here, found_later}
use Rattle.omf_image.proofs.overflow.overflow_in.Goals as goal

pub overflow_of-requires-clause-ready : goal.overflow_of-requires-clause-ready
overflow_of-requires-clause-ready g c =
    all_at (IsEntryReady c.args.layout.now) (entry_of c.args.input c.args.module.now) c.args.module.now.data_records
    c.loop-index.index (data_seen c.data_record-data_record.result) c.requires
    (omega (arith, c.loop-index-test.true, c.data_record_count-index-end.ensures))
    c.data_record-data_record.ensures.seen

pub returns-in-Some : goal.returns-in-Some
returns-in-Some g c =
    let m = c.args.module.now in
    let i = c.loop-index.index in
    let d = data_seen c.data_record-data_record.result in
    let e = entry_of c.args.input m d in
    found_here (entry_overflow c.args.layout.now) (drop i (module_entries c.args.input m)) (e ∷ [])
    (drop (i + 1) (module_entries c.args.input m)) c.in-Some.found _
    (entry_next c.args.input m i d (omega (arith, c.loop-index-test.true, c.data_record_count-index-end.ensures))
    c.data_record-data_record.ensures.seen)
    (found_at (entry_overflow c.args.layout.now) e _ (sym c.in-Some.ensures)) c.loop-index.invariant

pub loop-index-preserved : goal.loop-index-preserved
loop-index-preserved g c =
    let m = c.args.module.now in
    let i = c.loop-index.index in
    let d = data_seen c.data_record-data_record.result in
    let e = entry_of c.args.input m d in
    found_later (entry_overflow c.args.layout.now) (drop i (module_entries c.args.input m)) (e ∷ [])
    (drop (i + 1) (module_entries c.args.input m)) _
    (entry_next c.args.input m i d (omega (arith, c.loop-index-test.true, c.data_record_count-index-end.ensures))
    c.data_record-data_record.ensures.seen)
    (found_at (entry_overflow c.args.layout.now) e _ (sym c.overflow_of.ensures ∙ c.in_default.is))
    c.loop-index.invariant
